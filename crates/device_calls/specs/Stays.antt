-- A device as we write it stays as we write it: `Written` says that a device's bytes are just those that its own state and row have.
use Rattle.std.specs.Prelude.{◌≡◌, ℕ}
use mathlib.Core.List.{List}
use Rattle.device_bytes.specs.Decoding.{row_of, hca_of}
use Rattle.device_bytes.specs.Encoding.{device_bytes}

abbrev pub Written : List ℕ → Type 0
Written dev = dev ≡ device_bytes (hca_of dev) (row_of dev)
