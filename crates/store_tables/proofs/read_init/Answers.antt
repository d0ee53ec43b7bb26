use Rattle.context.specs.Init.{init_rows, init_of, logs_of}
use Rattle.words.proofs.Choice.{cases}
use Rattle.store_tables.proofs.read_init.Goals as goal

pub returns-then-mailbox-lt64 : goal.returns-then-mailbox-lt64
unfolding init_rows init_of logs_of
returns-then-mailbox-lt64 c = (search cases depth 8, search cases depth 8)

pub returns-then-fits_store : goal.returns-then-fits_store
unfolding init_rows init_of logs_of
returns-then-fits_store c = (search cases depth 8, search cases depth 8)

pub returns : goal.returns
unfolding init_rows init_of logs_of
returns c = (search cases depth 8, search cases depth 8)
