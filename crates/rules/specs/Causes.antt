-- The cause of a refusal where a part that a submission reads is wrong (01, Numbers returned).
use Rattle.hcr.specs.declared.ReadError.{ReadError}
use Rattle.hcr.specs.declared.ReadError.TheVariants as readError
use Rattle.context.specs.declared.InitError.{InitError}
use Rattle.context.specs.declared.InitError.TheVariants as initError
use Rattle.rules.specs.declared.Refusal.{Refusal}
use Rattle.rules.specs.declared.Refusal.TheVariants as cause

-- A register that has no command: its length is in the first row of the table, that it is not well formed in a row of its own.
abbrev pub of_read_error : ReadError → Refusal
of_read_error readError.Short = cause.BadLength
of_read_error readError.Malformed = cause.Malformed

-- INIT_HCA's mailbox: shorter than 64 bytes, or with counts that are out of range or do not fit the store.
abbrev pub of_init_error : InitError → Refusal
of_init_error initError.ShortMailbox = cause.ShortMailbox
of_init_error initError.OutOfRange = cause.BadContent
