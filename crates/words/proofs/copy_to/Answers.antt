use Rattle.std.proofs.Common.{refl}
use Rattle.std.proofs.Math.Nat.{add-sub_cancel_left}
use Rattle.words.proofs.Parts.{lent_splice}
use Rattle.words.proofs.copy_to.Goals as goal

pub returns : goal.returns
returns c = rw (add-sub_cancel_left, c.copy_from_slice.ensures.after) (lent_splice _ _ _ _ refl)
