use Rattle.std.proofs.Common.{◌-◌, length}
use Rattle.script_run.proofs.run_lines.Given as goal

abbrev pub decreases-loop-from : goal.decreases-loop-from
decreases-loop-from g l = length l.bytes - l.from
