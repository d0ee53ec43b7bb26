-- Laws about the definitions of specs/Start.antt.
use Rattle.std.specs.Prelude.{◌≡◌, refl, false, take}
use Rattle.rows.specs.Rows.{empty_row}
use Rattle.possible.specs.Possible.{impossible}
use Rattle.possible.proofs.Laws.{empty_possible}
use Rattle.start.specs.Start.{closed_state, nine_free}

pub closed_possible : impossible closed_state empty_row ≡ false
closed_possible = empty_possible closed_state refl

-- eight of them are an empty row
pub nine_front : take 8 nine_free ≡ empty_row
nine_front = refl
