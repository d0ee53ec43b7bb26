use Rattle.std.proofs.Common.{◌≡◌, ℕ, length, replicate, sym}
use Rattle.std.proofs.lemmas.List.{length-replicate}
use Rattle.script_run.proofs.run_with.Goals as goal

-- the length of a repeat, at any number: at 1,048,960 itself `search` would count
repeated : (n a : ℕ) → n ≡ length (replicate n a)
repeated n a = sym (length-replicate n a)

pub slice_bounds-run_through-end-2 : goal.slice_bounds-run_through-end-2
slice_bounds-run_through-end-2 g c = repeated 1048960 0
