use Rattle.edge_table.proofs.Reading.{found_entry, found_denial}
use Rattle.edge_table.proofs.look_up.Goals as goal

pub returns-in-Ok : goal.returns-in-Ok
returns-in-Ok c = found_entry _ _ _ _ c.judge.ensures.0 c.in-Ok.is

pub returns-in-Err-NotPermitted : goal.returns-in-Err-NotPermitted
returns-in-Err-NotPermitted c = let e = c.in-Err-NotPermitted in found_denial _ _ _ _ _ c.judge.ensures.0 e.is e.field-0-is

pub returns-in-Err-NotForType : goal.returns-in-Err-NotForType
returns-in-Err-NotForType c = let e = c.in-Err-NotForType in found_denial _ _ _ _ _ c.judge.ensures.0 e.is e.field-0-is
