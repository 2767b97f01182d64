-- The pinning of the statement of `daly_request`. Assumes nothing.
use mathlib.Core.Path.{◌≡◌}
use mathlib.Core.Bool.{Bool}
use mathlib.Core.List.{List}
use Prim.Native.Nat.{ℕ}
use lib.Ieee.{Float}
use Rattle.wire.proofs.Decides.{both, same-both}
use Rattle.daly.specs.Requests.{Requests}

module _ {command : ℕ} {enable : Bool} {percent : Float} {out exit : List ℕ} where
  pub pinned : {r q : ℕ} {other : List ℕ} → Requests command enable percent out r exit → Requests command enable percent out q other → both r exit ≡ both q other
  pinned p q = same-both p.answer p.left q.answer q.left
