-- What C is told of a reply that was to be written: document 01's number and how many bytes. Definitions only.
use Rattle.std.specs.Prelude.{ℕ, Bool, List, ℤ, length}
use Rattle.list.specs.declared.ListTold.{ListTold}
use Rattle.list.specs.Listed.{Tells}
use Rattle.writing.specs.declared.MosfetStatusWire.{MosfetStatusWire}
use Rattle.writing.specs.Replies.{room_check, mosfet_status_check, mosfet_status_reply}
use Rattle.writing_flags.specs.Replies.{balance_list_check, balance_reply}
use Rattle.writing_lists.specs.Replies.{cells_check, cells_reply, sensors_check, sensors_reply}

-- a reply of one frame, which only the room can refuse: of the reply, the lent bytes before and after, and the answer
abbrev pub TellsFrame : List ℕ → List ℕ → ListTold → List ℕ → Type 0
TellsFrame reply out r exit = Tells (room_check 13 (length out)) reply out r exit

-- of the sender's address, the values, the lent bytes before and after, and the answer
abbrev pub TellsMosfetStatus : ℕ → MosfetStatusWire → List ℕ → ListTold → List ℕ → Type 0
TellsMosfetStatus address k out r exit = Tells (mosfet_status_check k (length out)) (mosfet_status_reply address k) out r exit

abbrev pub TellsCells : ℕ → List ℕ → List ℕ → ListTold → List ℕ → Type 0
TellsCells address cells out r exit = Tells (cells_check (length cells) (length out)) (cells_reply address cells) out r exit

abbrev pub TellsSensors : ℕ → List ℤ → List ℕ → ListTold → List ℕ → Type 0
TellsSensors address degrees out r exit = Tells (sensors_check degrees (length out)) (sensors_reply address degrees) out r exit

abbrev pub TellsBalance : ℕ → List Bool → List ℕ → ListTold → List ℕ → Type 0
TellsBalance address flags out r exit = Tells (balance_list_check (length flags) (length out)) (balance_reply address flags) out r exit
