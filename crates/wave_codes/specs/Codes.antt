-- What a line of a script does, and which row of the table of refusals it came to (01, Numbers returned). A line that only tells something
-- has 0: it takes no time. The rows are counted from top to bottom, each cause of a denied record for itself; 0 is no refusal.
use Rattle.std.specs.Prelude.{ℕ, Option, Some, None}
use Rattle.checks.specs.declared.Denial.{Denial}
use Rattle.checks.specs.declared.Denial.TheVariants as denial
use Rattle.rules.specs.declared.Refusal.{Refusal}
use Rattle.rules.specs.declared.Refusal.TheVariants as refusal
use Rattle.script_keywords.specs.declared.Call.{Call}
use Rattle.script_keywords.specs.declared.Call.TheVariants as call
use Rattle.script_keywords.specs.declared.Memory.{Memory}
use Rattle.script_keywords.specs.declared.Memory.TheVariants as memory
use Rattle.script_keywords.specs.declared.Device.{Device}
use Rattle.script_keywords.specs.declared.Device.TheVariants as device
use Rattle.script_keywords.specs.declared.Keyword.{Keyword}
use Rattle.script_keywords.specs.declared.Keyword.TheVariants as keyword

-- ---- lines

abbrev pub call_line : Call → ℕ
call_line call.Command = 1
call_line call.Engine = 2
call_line call.Step = 3
call_line call.Collect = 4
call_line call.Reset = 5

abbrev pub memory_line : Memory → ℕ
memory_line memory.Lend = 6
memory_line memory.RowLength = 7
memory_line memory.RoomLength = 8
memory_line memory.StoreLength = 9
memory_line memory.Poke = 10
memory_line memory.Peek = 0
memory_line memory.Digest = 0

abbrev pub device_line : Device → ℕ
device_line device.State = 11
device_line device.Slot = 12
device_line device.Show = 0
device_line device.Why = 0

abbrev pub line_code : Keyword → ℕ
line_code (keyword.Call c) = call_line c
line_code (keyword.Memory m) = memory_line m
line_code (keyword.Device d) = device_line d
line_code keyword.Unknown = 0

-- ---- rows

abbrev pub denial_row : Denial → ℕ
denial_row denial.Edge = 14
denial_row denial.ServiceType = 15
denial_row denial.Owner = 16
denial_row denial.Name = 17

abbrev pub refusal_row : Refusal → ℕ
refusal_row refusal.BadLength = 1
refusal_row refusal.Impossible = 2
refusal_row refusal.NoRequest = 3
refusal_row refusal.StillRunning = 4
refusal_row refusal.ShortBuffer = 5
refusal_row refusal.Malformed = 6
refusal_row refusal.NotServed = 7
refusal_row refusal.BadSystemState = 8
refusal_row refusal.Busy = 9
refusal_row refusal.BadParameter = 10
refusal_row refusal.ShortMailbox = 11
refusal_row refusal.BadContent = 12
refusal_row refusal.Held = 13
refusal_row (refusal.Denied d) = denial_row d
refusal_row refusal.Full = 18

abbrev pub row_code : Option Refusal → ℕ
row_code None = 0
row_code (Some c) = refusal_row c
