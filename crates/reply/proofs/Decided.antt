-- Each contract of the crate allows one answer; of a push, all but the places of the lent frames that no one sees. Assumes nothing.
use mathlib.Core.Path.{◌≡◌, refl, sym, ◌∙◌}
use mathlib.Core.List.{List}
use Prim.Native.Nat.{ℕ}
use Rattle.wire.proofs.Decides.{Decides, same, both}
use Rattle.text.proofs.Putting.{pinned}
use Rattle.reader.proofs.Promise.{same-counts}
use Rattle.reply.specs.declared.Input.{Input}
use Rattle.reply.specs.declared.Input.TheVariants.{Nothing, Command, Stream}
use Rattle.reader.specs.View.{view}
use Rattle.reply.specs.Input.{first, stream, state_of, HasSeven}
use Rattle.reply.proofs.begin.Reads as begin
use Rattle.reply.proofs.push.Reads as push
use Rattle.reply.proofs.print.Reads as print

begin-decides : Decides begin.Post (λ κs r s. r)
begin-decides κs a x y s t = same

-- what is seen of the frames decides the input
input_once : (x y : Input) (g h : List ℕ) → HasSeven x → HasSeven y → state_of x g ≡ state_of y h → both x (state_of x g) ≡ both y (state_of y h)
unfolding state_of
input_once Nothing Nothing g h m n e = refl
input_once Nothing (Command c) g h m n e = cc
input_once Nothing (Stream a) g h m n e = cc
input_once (Command c) Nothing g h m n e = cc
input_once (Command c) (Command d) g h m n e = let p : c ≡ d = cc in λ k. both (Command (p k)) (first (p k))
input_once (Command c) (Stream a) g h m n e = cc
input_once (Stream a) Nothing g h m n e = cc
input_once (Stream a) (Command c) g h m n e = cc
input_once (Stream a) (Stream b) g h m n e =
    let p : a.command ≡ b.command = cc in
    let q : a.count ≡ b.count = cc in
    let v : view a.counts g ≡ view b.counts h = cc in
    let w : a.counts ≡ b.counts = same-counts a.counts g b.counts h m n v in
    λ k. both (Stream (record { command = p k; count = q k; counts = w k })) (stream (p k) (q k) (v k))

push-decides : Decides push.Post (λ κs r s. both r (state_of r s.0.now))
push-decides κs a x y s t p q = input_once x y s.0.now t.0.now p.1 q.1 (p.0 ∙ sym q.0)

print-decides : Decides print.Post (λ κs r s. both r s.1.1.0.now)
print-decides κs a x y s t p q = pinned p.0 q.0
