-- Document 01, module 2: the requests that only ask, and the reset. Definitions only.
use Rattle.std.specs.Prelude.{ℕ, cond, ◌==◌, Result, Ok, Err}
use Rattle.frame.specs.declared.refusal.Refusal.{Refusal}
use Rattle.frame.specs.declared.refusal.Refusal.TheVariants.{UnknownCommand}
use Rattle.request.specs.declared.Query.{Query}
use Rattle.request.specs.declared.Query.TheVariants.{Soc, CellVoltageRange, TemperatureRange, MosfetStatus, Status, CellVoltages, CellTemperatures, CellBalanceState, ErrorCode, BmsReset}

-- "`Soc` 90, `CellVoltageRange` 91, `TemperatureRange` 92, `MosfetStatus` 93, `Status` 94, `CellVoltages` 95, `CellTemperatures` 96,
-- `CellBalanceState` 97, `ErrorCode` 98", "`BmsReset` 00"
abbrev pub query_command : Query → ℕ
query_command Soc = 0x90
query_command CellVoltageRange = 0x91
query_command TemperatureRange = 0x92
query_command MosfetStatus = 0x93
query_command Status = 0x94
query_command CellVoltages = 0x95
query_command CellTemperatures = 0x96
query_command CellBalanceState = 0x97
query_command ErrorCode = 0x98
query_command BmsReset = 0x00

-- the same table the other way; a command that has no row is refused 10, UnknownCommand
abbrev pub query_of : ℕ → Result Query Refusal
query_of command =
    cond (command == 0x90) (Ok Soc)
    (cond (command == 0x91) (Ok CellVoltageRange)
    (cond (command == 0x92) (Ok TemperatureRange)
    (cond (command == 0x93) (Ok MosfetStatus)
    (cond (command == 0x94) (Ok Status)
    (cond (command == 0x95) (Ok CellVoltages)
    (cond (command == 0x96) (Ok CellTemperatures)
    (cond (command == 0x97) (Ok CellBalanceState)
    (cond (command == 0x98) (Ok ErrorCode)
    (cond (command == 0x00) (Ok BmsReset)
    (Err UnknownCommand))))))))))
