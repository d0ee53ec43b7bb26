-- Which packet sequence numbers an engine write may set.
use Rattle.std.specs.Prelude.{Bool, ℕ, leb}

-- a PSN has 24 bits; a larger one is refused (01, Numbers returned, 3)
abbrev pub psn_fits : ℕ → Bool
psn_fits psn = leb psn 0xffffff
