-- The request that a command byte asks for. Definitions only.
use Rattle.std.specs.Prelude.{ℕ, ◌≡◌, Bool, false, cond, not, ◌||◌, List, [], ◌∷◌, eqb, Float, Result}
use Rattle.frame.specs.declared.refusal.Refusal.{Refusal}
use Rattle.frame.specs.declared.refusal.Refusal.TheVariants.{UnknownCommand}
use Rattle.frame.specs.Refusals.{Check, sound, refuse, answer_number}
use Rattle.frame.specs.Reply.{answer as answer_of}
use Rattle.request.specs.Requests.{read_request, switch_request, set_soc_request}

-- whether n is in the list
abbrev pub one_of : List ℕ → ℕ → Bool
one_of [] n = false
one_of (k ∷ ks) n = eqb n k || one_of ks n

-- the commands of the thirteen requests
abbrev pub commands : List ℕ
commands = 0x90 ∷ 0x91 ∷ 0x92 ∷ 0x93 ∷ 0x94 ∷ 0x95 ∷ 0x96 ∷ 0x97 ∷ 0x98 ∷ 0xD9 ∷ 0xDA ∷ 0x21 ∷ 0x00 ∷ []

-- D9 and DA switch, 21 sends a count, all others only ask
abbrev pub request_of : ℕ → Bool → Float → List ℕ
request_of command enable percent =
    cond (one_of (0xD9 ∷ 0xDA ∷ []) command) (switch_request command enable)
    (cond (eqb command 0x21) (set_soc_request percent)
    (read_request command))

-- 10: a command that no request has
abbrev pub command_check : ℕ → Check
command_check command = refuse (not (one_of commands command)) UnknownCommand sound

-- its request, or 10
abbrev pub asked_for : ℕ → Bool → Float → Result (List ℕ) Refusal
asked_for command enable percent = answer_of (command_check command) (request_of command enable percent)

-- 0 and the request in the lent bytes, or 10 and the bytes as they were
pub record Requests (command : ℕ) (enable : Bool) (percent : Float) (out : List ℕ) (r : ℕ) (exit : List ℕ) : Type 0 where
  pub answer : r ≡ answer_number (command_check command)
  pub left : exit ≡ cond (one_of commands command) (request_of command enable percent) out
