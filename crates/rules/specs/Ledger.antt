-- Document 01, "The reader's rules": all turns, written down line by line. Definitions only.
use Rattle.std.specs.Prelude.{ℕ, zero, suc, ◌+◌, List, [], ◌∷◌, ◌++◌, eqb, length, take, drop, if◌then◌else◌}
use Rattle.std.proofs.Math.Option.{Option, none, some}
use Rattle.rules.specs.Rules.{Config, Why, noise, wrong_sum, wrong_command, wrong_number, echo, span, Fate, discarded, collected, size, lost, look, after, drops}

-- one line of the ledger: the bytes that a turn cut off, what became of them, and how many frames were dropped at that
pub record Line : Type 0 where
  pub fate : Fate
  pub bytes : List ℕ
  pub cleared : ℕ

-- the turn a on the bytes p: its line, and the collected frames after it
abbrev pub line : Config → List (List ℕ) → List ℕ → Fate → Line
line c kept p a = record { fate = a; bytes = take (size a) p; cleared = drops c a (take (size a) p) kept }

abbrev pub next : Config → List (List ℕ) → List ℕ → Fate → List (List ℕ)
next c kept p a = after c a (take (size a) p) kept

-- the ledger, the collected frames and the bytes left, when no turn is possible any more
pub record Outcome : Type 0 where
  pub ledger : List Line
  pub collected : List (List ℕ)
  pub rest : List ℕ

abbrev pub halt : List (List ℕ) → List ℕ → Outcome
halt kept p = record { ledger = []; collected = kept; rest = p }

abbrev pub enter : Line → Outcome → Outcome
enter l o = record { ledger = l ∷ o.ledger; collected = o.collected; rest = o.rest }

abbrev pub turn : Option Fate → Outcome → (Fate → Outcome) → Outcome
turn none stop go = stop
turn (some a) stop go = go a

-- at most n turns
unfoldable pub turns : ℕ → Config → List (List ℕ) → List ℕ → Outcome
turns zero c kept p = halt kept p
turns (suc n) c kept p =
    turn (look c (length kept) p) (halt kept p)
    (λ a. enter (line c kept p a) (turns n c (next c kept p a) (drop (size a) p)))

-- all turns: each cuts at least one byte off, so as many turns as bytes are enough (`run_halts`)
unfoldable pub run : Config → List (List ℕ) → List ℕ → Outcome
run c kept p = turns (length p) c kept p

-- ---- counts over a ledger

unfoldable pub total : (Line → ℕ) → List Line → ℕ
total f [] = 0
total f (l ∷ ls) = f l + total f ls

-- bytes discarded
abbrev pub discards : List Line → ℕ
discards ls = total (λ l. lost l.fate) ls

-- the reasons in document 02's order (K3): "bytes before A5, bytes after a wrong sum, wrong command, wrong number, echo"
abbrev pub place : Why → ℕ
place noise = 0
place wrong_sum = 1
place wrong_command = 2
place wrong_number = 3
place echo = 4

-- how many bytes of a turn count as discarded for the reason y
unfoldable pub lost_for : Why → Fate → ℕ
lost_for y (discarded z) = if eqb (place y) (place z) then span z else 0
lost_for y collected = 0

-- bytes discarded for it
abbrev pub discards_for : Why → List Line → ℕ
discards_for y ls = total (λ l. lost_for y l.fate) ls

-- frames dropped by restarts
abbrev pub clears : List Line → ℕ
clears ls = total (λ l. l.cleared) ls

-- the bytes themselves
unfoldable pub spent : List Line → List ℕ
spent [] = []
spent (l ∷ ls) = l.bytes ++ spent ls
