use Rattle.device_collect.specs.Collections.{on_free, on_running, on_short, on_collected}
use borrow.Author.Rules.{rules}
use Rattle.device_collect.proofs.collect_slot.Goals as goal

pub returns-then-out-size : goal.returns-then-out-size
returns-then-out-size c h s = search (rules, on_short)

pub returns-in-Free : goal.returns-in-Free
returns-in-Free c h s = search (rules, on_free)

pub returns-in-Running : goal.returns-in-Running
returns-in-Running c h s = search (rules, on_running)

pub returns-else-out-size : goal.returns-else-out-size
returns-else-out-size c h s = search (rules, on_collected)
