-- Document 01's P1 and P2, the four switches as the Rust sends them, and the commands of its module 2, over the definitions that the
-- contracts cite. Assumes nothing.
use mathlib.Core.Path.{◌≡◌, refl}
use Prim.Native.Nat.{ℕ}
use mathlib.Core.List.{List, [], ◌∷◌, map}
use mathlib.Core.Bool.{true, false}
use lib.Ieee.{binary32, of_bits, round}
use Rattle.std.proofs.Common.{Ok, Err, replicate}
use Rattle.frame.specs.declared.refusal.Refusal.TheVariants.{UnknownCommand}
use Rattle.frame.specs.Frame.{frame}
use Rattle.units.specs.SetSoc.{set_soc_count}
use Rattle.request.specs.declared.Query.TheVariants.{Soc, CellVoltageRange, TemperatureRange, MosfetStatus, Status, CellVoltages, CellTemperatures, CellBalanceState, ErrorCode, BmsReset}
use Rattle.request.specs.Requests.{read_request, switch_request, set_soc_request}
use Rattle.request.specs.Queries.{query_command, query_of}

-- P1 the `Soc` request; P2 `SetSoc` 0.25 and 50.5
requests : List (List ℕ)
requests = read_request 0x90 ∷ set_soc_request (round binary32 false 1 4) ∷ set_soc_request (round binary32 false 101 2) ∷ []

p1-p2 : requests
    ≡ (0xA5 ∷ 0x40 ∷ 0x90 ∷ 0x08 ∷ 0 ∷ 0 ∷ 0 ∷ 0 ∷ 0 ∷ 0 ∷ 0 ∷ 0 ∷ 0x7D ∷ [])
    ∷ (0xA5 ∷ 0x40 ∷ 0x21 ∷ 0x08 ∷ 0 ∷ 0 ∷ 0 ∷ 0 ∷ 0 ∷ 0 ∷ 0 ∷ 3 ∷ 0x11 ∷ [])
    ∷ (0xA5 ∷ 0x40 ∷ 0x21 ∷ 0x08 ∷ 0 ∷ 0 ∷ 0 ∷ 0 ∷ 0 ∷ 0 ∷ 0x01 ∷ 0xF9 ∷ 0x08 ∷ [])
    ∷ []
unfolding requests frame set_soc_count round
p1-p2 = refl

-- "data byte 4 is 1 to enable": D9 off and on, DA off and on
switches : switch_request 0xD9 false ∷ switch_request 0xD9 true ∷ switch_request 0xDA false ∷ switch_request 0xDA true ∷ []
    ≡ (0xA5 ∷ 0x40 ∷ 0xD9 ∷ 0x08 ∷ 0 ∷ 0 ∷ 0 ∷ 0 ∷ 0 ∷ 0 ∷ 0 ∷ 0 ∷ 0xC6 ∷ [])
    ∷ (0xA5 ∷ 0x40 ∷ 0xD9 ∷ 0x08 ∷ 1 ∷ 0 ∷ 0 ∷ 0 ∷ 0 ∷ 0 ∷ 0 ∷ 0 ∷ 0xC7 ∷ [])
    ∷ (0xA5 ∷ 0x40 ∷ 0xDA ∷ 0x08 ∷ 0 ∷ 0 ∷ 0 ∷ 0 ∷ 0 ∷ 0 ∷ 0 ∷ 0 ∷ 0xC7 ∷ [])
    ∷ (0xA5 ∷ 0x40 ∷ 0xDA ∷ 0x08 ∷ 1 ∷ 0 ∷ 0 ∷ 0 ∷ 0 ∷ 0 ∷ 0 ∷ 0 ∷ 0xC8 ∷ [])
    ∷ []
unfolding frame
switches = refl

-- "high byte first": 51.2 percent, whose bits are 424CCCCD, is 512
high_byte : set_soc_request (of_bits binary32 0x424C_CCCD) ≡ 0xA5 ∷ 0x40 ∷ 0x21 ∷ 0x08 ∷ 0 ∷ 0 ∷ 0 ∷ 0 ∷ 0 ∷ 0 ∷ 0x02 ∷ 0x00 ∷ 0x10 ∷ []
unfolding frame set_soc_count of_bits
high_byte = refl

-- "`Soc` 90, `CellVoltageRange` 91, `TemperatureRange` 92, `MosfetStatus` 93, `Status` 94, `CellVoltages` 95, `CellTemperatures` 96,
-- `CellBalanceState` 97, `ErrorCode` 98", "`BmsReset` 00"
commands : map query_command (Soc ∷ CellVoltageRange ∷ TemperatureRange ∷ MosfetStatus ∷ Status ∷ CellVoltages ∷ CellTemperatures ∷ CellBalanceState ∷ ErrorCode ∷ BmsReset ∷ [])
    ≡ 0x90 ∷ 0x91 ∷ 0x92 ∷ 0x93 ∷ 0x94 ∷ 0x95 ∷ 0x96 ∷ 0x97 ∷ 0x98 ∷ 0 ∷ []
commands = refl

queries : map query_of (0x90 ∷ 0x91 ∷ 0x92 ∷ 0x93 ∷ 0x94 ∷ 0x95 ∷ 0x96 ∷ 0x97 ∷ 0x98 ∷ 0 ∷ [])
    ≡ Ok Soc ∷ Ok CellVoltageRange ∷ Ok TemperatureRange ∷ Ok MosfetStatus ∷ Ok Status ∷ Ok CellVoltages ∷ Ok CellTemperatures ∷ Ok CellBalanceState ∷ Ok ErrorCode ∷ Ok BmsReset ∷ []
queries = refl

-- no others: the neighbours of 00 and of 90 to 98, the commands that carry data ("D9", "DA", "21"), and the last byte
no_queries : map query_of (1 ∷ 0x8F ∷ 0x99 ∷ 0xD9 ∷ 0xDA ∷ 0x21 ∷ 255 ∷ []) ≡ replicate 7 (Err UnknownCommand)
no_queries = refl
