-- A record that is read burst by burst: every byte of the buffer that was copied is the record's.
use Rattle.std.specs.Prelude.{List, [], ◌∷◌, ℕ, ◌*◌, ◌-◌}
use Rattle.words.specs.Parts.{part, splice}
use Rattle.burst_table.specs.Sizes.{burst_size}

-- burst j of the record c goes to the offset in the buffer that it has in the record (01, Bursts, slots and holds)
abbrev pub copy : ℕ → List ℕ → List ℕ → List ℕ
copy j c buf = splice (burst_size * j) (part (burst_size * j) burst_size c) buf

-- the buffer after a list of bursts
abbrev pub copies : List ℕ → List ℕ → List ℕ → List ℕ
copies [] c buf = buf
copies (j ∷ js) c buf = copies js c (copy j c buf)
