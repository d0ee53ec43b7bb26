-- A bytewise effect made burst by burst is the whole effect. Stated over a byte rule f and a list of bursts js, each burst by its place
-- among the bursts of the record.
use Rattle.std.specs.Prelude.{List, [], ◌∷◌, ℕ, ◌*◌, ◌-◌}
use Rattle.words.specs.Parts.{part, splice}
use Rattle.words.specs.Maps.{map_from}
use Rattle.burst_table.specs.Sizes.{burst_size}

-- the record c after one burst, made from what stands there
abbrev pub burst : (ℕ → ℕ → ℕ) → ℕ → List ℕ → List ℕ
burst f j c = splice (burst_size * j) (map_from f (burst_size * j) (part (burst_size * j) burst_size c)) c

-- the record after a list of bursts
abbrev pub after : (ℕ → ℕ → ℕ) → List ℕ → List ℕ → List ℕ
after f [] c = c
after f (j ∷ js) c = after f js (burst f j c)
