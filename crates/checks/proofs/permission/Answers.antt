use Rattle.checks.proofs.PermissionLaws.{permission_told}
use Rattle.checks.proofs.permission.Goals as goal

pub returns-in-Command : goal.returns-in-Command
returns-in-Command c =
    permission_told c.args.request c.args.rec.now
    (rw c.in-Command.is c.command_permitted.ensures)

pub returns-in-Engine : goal.returns-in-Engine
returns-in-Engine c =
    permission_told c.args.request c.args.rec.now
    (rw c.in-Engine.is c.engine_permitted.ensures)
