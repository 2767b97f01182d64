-- The verdict on 13 bytes, from what the code tests. Assumes nothing.
use Rattle.std.specs.Prelude.{if◌then◌else◌}
use Rattle.std.proofs.Common.{◌≡◌, ℕ, suc, ◌+◌, ◌-◌, ◌<◌, ◌≤◌, Bool, true, false, ◌&&◌, eqb, List, [], length, sym, refl, ◌∙◌, add-one, arith, le-ltb, lt-ltb, eq-eqb, ne_eqb}
use Rattle.wire.specs.Bytes.{byte_at}
use Rattle.frame.specs.Checks.{sum_of}
use Rattle.rules.specs.Rules.{Config, Why, discarded, collected, sum_right, judge, restarts, stay, drops}
use Rattle.reader.specs.View.{chop}
use Rattle.reader.proofs.Parts.{length-chop}

module _ (w : List ℕ) (whole : length w ≡ 13) where
  pub sums : eqb (byte_at w 12) (sum_of w) ≡ sum_right w
  unfolding sum_right sum_of
  sums = rw whole

module _ (c : Config) (have : ℕ) (w : List ℕ) where
  pub due_sum : sum_right w ≡ false → discarded Why.wrong_sum ≡ judge c have w
  unfolding judge
  due_sum e = rw e

  module _ (right : sum_right w ≡ true) where
    pub due_command : (byte_at w 2 ≡ c.command → ⊥) → discarded Why.wrong_command ≡ judge c have w
    unfolding judge
    due_command n = rw (right, ne_eqb (byte_at w 2) c.command n)

    module _ (k : byte_at w 2 ≡ c.command) where
      ours : eqb (byte_at w 2) c.command ≡ true
      ours = eq-eqb _ _ k

      pub due_echo : c.strict && eqb (byte_at w 1) 0x40 ≡ true → discarded Why.echo ≡ judge c have w
      unfolding judge
      due_echo u = rw (right, ours, u)

      module _ (u : c.strict && eqb (byte_at w 1) 0x40 ≡ false) where
        pub due_one : c.wanted ≤ 1 → collected ≡ judge c have w
        unfolding judge
        due_one n = rw (right, ours, u, le-ltb 1 c.wanted n)

        module _ (j : ℕ) (stayed : j ≡ (if restarts c w then 0 else have)) (m : 1 < c.wanted) where
          pub due_number : (byte_at w 4 ≡ j + 1 → ⊥) → discarded Why.wrong_number ≡ judge c have w
          unfolding judge
          due_number o = rw (right, ours, u, lt-ltb 1 c.wanted m, ← stayed, ne_eqb (byte_at w 4) (suc j) (λ z. o (z ∙ sym (add-one j))))

          pub due_place : byte_at w 4 ≡ j + 1 → collected ≡ judge c have w
          unfolding judge
          due_place o = rw (right, ours, u, lt-ltb 1 c.wanted m, ← stayed, eq-eqb (byte_at w 4) (suc j) (o ∙ add-one j))

-- how many frames stay
pub stay_few : (c : Config) (w : List ℕ) (have k : ℕ) → k ≡ (if restarts c w then 0 else have) → k ≤ have
stay_few c w have k e = go (restarts c w) e
  where
    go : (t : Bool) → k ≡ (if t then 0 else have) → k ≤ have
    go true h = omega (arith, h)
    go false h = omega (arith, h)

-- and what is cleared then
pub stays : (c : Config) (w f : List ℕ) (have k : ℕ) → k ≡ (if restarts c w then 0 else have)
    → (stay c w (chop have f) ≡ chop k f) × (drops c collected w (chop have f) ≡ have - k)
unfolding stay drops chop
stays c w f have k e = go (restarts c w) e
  where
    go : (t : Bool) → k ≡ (if t then 0 else have)
        → ((if t then [] else chop have f) ≡ chop k f) × ((if t then length (chop have f) else 0) ≡ have - k)
    go true h = rw (h, length-chop) (refl, omega arith)
    go false h = rw h (refl, omega arith)
