-- Lists of records: what it is to be one of them, and that two lists share a record whichever is asked first.
use Rattle.std.specs.Prelude.{◌≡◌, Bool, false, List, [], ◌∷◌, ◌⊎◌}
use Rattle.words.specs.Choice.{either}
use Rattle.context.specs.declared.Record.{Record}
use Rattle.request_table.specs.Records.{one_of}

-- ---- one of some records

-- X is in a list
abbrev pub In : Record → List Record → Type 0
In X [] = ⊥
In X (Y ∷ Ys) = (Y ≡ X) ⊎ In X Ys

-- one of the records Xs is one of the records Ys
abbrev pub share : List Record → List Record → Bool
share Ys [] = false
share Ys (X ∷ Xs) = either (one_of Ys X) (share Ys Xs)
