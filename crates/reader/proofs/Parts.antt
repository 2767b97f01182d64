-- The reader's array: its frames, its held bytes, and what a copy into it leaves. Assumes nothing.
use Rattle.std.proofs.Common.{◌≡◌, ℕ, zero, suc, ◌+◌, ◌-◌, ◌*◌, ◌<◌, ◌≤◌, Bool, true, false, ltb, List, [], ◌∷◌, ◌++◌, length, get_or, take, drop, sym, refl, ap, ◌∙◌, append_assoc, add-zero, suc-add, zero-add, add-one, arith, length-drop, length-take-le, get_or-drop, take_all, take-take, drop-drop, take_at, take-add, drop_at, ltb-false, ltb-true}
use Rattle.std.proofs.lemmas.List.{drop-take}
use lib.Seq.{paste, length-paste, take-paste, take-append-le}
use Rattle.rules.specs.Reader.{joined}
use Rattle.reader.specs.View.{chop, front}

-- ---- the collected frames

pub length-chop : (k : ℕ) (l : List ℕ) → length (chop k l) ≡ k
unfolding chop
length-chop zero l = refl
length-chop (suc k) l = ap suc (length-chop k (drop 13 l))

-- one frame more, behind the others
pub chop_snoc : (k : ℕ) (l : List ℕ) → chop (suc k) l ≡ chop k l ++ (take 13 (drop (13 * k) l) ∷ [])
unfolding chop
chop_snoc zero l = refl
chop_snoc (suc k) l =
    let n : 13 + 13 * k ≡ 13 * suc k = omega arith in
    let e : drop (13 * k) (drop 13 l) ≡ drop (13 * suc k) l = drop-drop (13 * k) 13 l ∙ rw n in
    ap (λ (r : List (List ℕ)). take 13 l ∷ r) (chop_snoc k (drop 13 l) ∙ rw e)

-- the collected bytes, one frame after the other
pub joined-chop : (k : ℕ) (l : List ℕ) → joined (chop k l) ≡ take (13 * k) l
unfolding chop joined
joined-chop zero l = refl
joined-chop (suc k) l =
    let n : 13 * suc k ≡ 13 + 13 * k = omega arith in
    rw (n, take-add 13 (13 * k) l, joined-chop k (drop 13 l))

-- only the first 13 * k bytes count: what stands behind them is not seen
pub chop-same : (k : ℕ) (l m : List ℕ) → take (13 * k) l ≡ take (13 * k) m → chop k l ≡ chop k m
unfolding chop
chop-same zero l m e = refl
chop-same (suc k) l m e =
    let n : 13 * suc k ≡ 13 + 13 * k = omega arith in
    let e' : take (13 + 13 * k) l ≡ take (13 + 13 * k) m = rw n at e in
    let hd : take 13 l ≡ take 13 m = sym (take-take 13 (13 + 13 * k) l (omega arith)) ∙ ap (take 13) e' ∙ take-take 13 (13 + 13 * k) m (omega arith) in
    let tl : take (13 * k) (drop 13 l) ≡ take (13 * k) (drop 13 m) = sym (drop-take 13 (13 * k) l) ∙ ap (drop 13) e' ∙ drop-take 13 (13 * k) m in
    λ i. hd i ∷ chop-same k (drop 13 l) (drop 13 m) tl i

-- ---- copies

-- a copy of the first n bytes of g
pub paste_first : (f g : List ℕ) (at n : ℕ) → n ≤ length g → paste f at (take n g) (length (take n g)) ≡ paste f at g n
paste_first f g at n b = rw (length-take-le n g b, take-take n n g (omega arith))

-- the 13 bytes of s at `at`
abbrev pub window : List ℕ → ℕ → List ℕ
window s at = take 13 (drop at s)

pub length_window : (s : List ℕ) (at : ℕ) → at + 13 ≤ length s → length (window s at) ≡ 13
length_window s at b = length-take-le 13 (drop at s) (omega (arith, length-drop at s))

pub first_of : (s : List ℕ) (at : ℕ) → get_or (drop at s) 0 0 ≡ get_or s at 0
first_of s at = get_or-drop at s 0 0 ∙ rw add-zero

-- a frame that is copied in behind the first k is collected
pub chop_copied : (f w : List ℕ) (k : ℕ) → 13 * k + 13 ≤ length f → length w ≡ 13 → chop (k + 1) (paste f (13 * k) w 13) ≡ chop k f ++ (w ∷ [])
chop_copied f w k b lw =
    let n : ℕ = 13 * k in
    let g : List ℕ = paste f n w 13 in
    let t : List ℕ = drop (n + 13) f in
    let all : take 13 w ≡ w = take_all 13 w (omega arith) in
    let ln : length (take n f) ≡ n = length-take-le n f (omega arith) in
    let front : take n g ≡ take n f = rw (append_assoc, all) (take_at (take n f) (w ++ t) n ln) in
    let back : drop n g ≡ w ++ t = rw (append_assoc, all) (drop_at (take n f) (w ++ t) n ln) in
    let v : take 13 (drop n g) ≡ w = rw back (take_at w t 13 lw) in
    rw add-one (chop_snoc k g ∙ rw (chop-same k g f front, v))

-- ---- what a copy behind place n leaves before n, and from n on

pub take-low : (n h m : ℕ) (f g : List ℕ) → n + h ≤ length f → take n (paste f (n + h) g m) ≡ take n f
take-low n h m f g b =
    let l : length (take (n + h) f) ≡ n + h = length-take-le (n + h) f b in
    rw (append_assoc, take-append-le n (take (n + h) f) (take m g ++ drop (n + h + m) f) (omega arith)) (take-take n (n + h) f (omega arith))

pub drop-low : (n h m : ℕ) (f g : List ℕ) → n + h ≤ length f → drop n (paste f (n + h) g m) ≡ paste (drop n f) h g m
drop-low zero h m f g b = rw zero-add
drop-low (suc n) h m [] g b = absurd (omega arith)
drop-low (suc n) h m (x ∷ xs) g b = rw (suc-add n h, suc-add (n + h) m) (drop-low n h m xs g (omega arith))

-- ---- the bytes held

pub length_front : (n : ℕ) (l : List ℕ) → length (front n l) ≡ n
unfolding front
length_front zero l = refl
length_front (suc n) l = ap suc (length_front n (drop 1 l))

pub front-take : (n : ℕ) (l : List ℕ) → n ≤ length l → front n l ≡ take n l
unfolding front
front-take zero l h = refl
front-take (suc n) [] h = absurd (omega arith)
front-take (suc n) (x ∷ xs) h = ap (λ (r : List ℕ). x ∷ r) (front-take n xs (omega arith))

-- ---- copies, as `front` sees them

-- the bytes g are copied behind the first h of f
pub front-more : (f g : List ℕ) (h : ℕ) → h + length g ≤ length f → front h f ++ g ≡ front (h + length g) (paste f h g (length g))
front-more f g h b =
    let p : List ℕ = paste f h g (length g) in
    let l : length p ≡ length f = length-paste f h g (length g) b (omega arith) in
    sym (front-take (h + length g) p (omega arith)
    ∙ take-paste f h g (length g) (omega arith) (omega arith)
    ∙ rw (front-take h f (omega arith), take_all (length g) g (omega arith)))

-- and where none were held
pub held-rest : (f f' t : List ℕ) (c : ℕ) → front 0 (drop (13 * c) f) ++ t ≡ front (0 + length t) (drop (13 * c) f') → t ≡ front (length t) (drop (13 * c) f')
unfolding front
held-rest f f' t c e = rw (zero-add (length t)) at e

-- of the bridge w its bytes from `at` up to m are held behind c frames, where 12 places are copied
pub held-bridge : (f w : List ℕ) (c at m : ℕ) → 13 * c + 12 ≤ length f → at + 12 ≤ length w → at ≤ m → m ≤ at + 12
    → (drop at (take m w) ≡ front (m - at) (drop (13 * c) (paste f (13 * c) (drop at w) 12))) × (chop c f ≡ chop c (paste f (13 * c) (drop at w) 12))
held-bridge f w c at m a l b r =
    let n : ℕ = m - at in
    let g : List ℕ = drop at w in
    let h : List ℕ = drop (13 * c) f in
    let z : 13 * c + 0 ≡ 13 * c = omega arith in
    let low : drop (13 * c) (paste f (13 * c) g 12) ≡ paste h 0 g 12 = rw z at (drop-low (13 * c) 0 12 f g (omega arith)) in
    let top : take (13 * c) (paste f (13 * c) g 12) ≡ take (13 * c) f = rw z at (take-low (13 * c) 0 12 f g (omega arith)) in
    let lg : 12 ≤ length g = omega (arith, length-drop at w) in
    let lh : 12 ≤ length h = omega (arith, length-drop (13 * c) f) in
    let lp : length (paste h 0 g 12) ≡ length h = length-paste h 0 g 12 (omega arith) lg in
    let t : take 12 (paste h 0 g 12) ≡ take 12 g = take-paste h 0 g 12 (omega arith) lg in
    let u : take n (paste h 0 g 12) ≡ take n g = sym (take-take n 12 (paste h 0 g 12) (omega arith)) ∙ ap (take n) t ∙ take-take n 12 g (omega arith) in
    let q : at + n ≡ m = omega arith in
    let v : drop at (take m w) ≡ take n g = ap (λ (k : ℕ). drop at (take k w)) (sym q) ∙ drop-take at n w in (
      v ∙ sym u ∙ sym (front-take n (paste h 0 g 12) (omega arith)) ∙ ap (front n) (sym low),
      sym (chop-same c (paste f (13 * c) g 12) f top),
    )

-- t is held behind the h bytes held there
pub held_more : (f t : List ℕ) (c h : ℕ) → 13 * c + 12 ≤ length f → h + length t ≤ 12
    → (front h (drop (13 * c) f) ++ t ≡ front (h + length t) (drop (13 * c) (paste f (13 * c + h) t (length t)))) × (chop c f ≡ chop c (paste f (13 * c + h) t (length t)))
held_more f t c h a b = (
  front-more (drop (13 * c) f) t h (omega (arith, length-drop (13 * c) f)) ∙ ap (front (h + length t)) (sym (drop-low (13 * c) h (length t) f t (omega arith))),
  sym (chop-same c (paste f (13 * c + h) t (length t)) f (take-low (13 * c) h (length t) f t (omega arith))),
)

-- the bridge: 12 bytes of f, of which h count, and m of g behind those
pub bridged-bytes : (w f g : List ℕ) (h m : ℕ) → h ≤ 12 → 12 ≤ length f → 24 ≤ length w → m ≤ 12 → m ≤ length g → (m < 12 → m ≡ length g)
    → take (h + m) (paste (paste w 0 f 12) h g m) ≡ front h f ++ take 12 g
bridged-bytes w f g h m a lf lw c d e =
    let v : List ℕ = paste w 0 f 12 in
    let lv : length v ≡ length w = length-paste w 0 f 12 (omega arith) lf in
    let t : take 12 v ≡ take 12 f = take-paste w 0 f 12 (omega arith) lf in
    let u : take h v ≡ take h f = sym (take-take h 12 v a) ∙ ap (take h) t ∙ take-take h 12 f a in
    take-paste v h g m (omega arith) d ∙ rw (u, front-take h f (omega arith)) (ap (λ (r : List ℕ). take h f ++ r) (all m c d e))
  where
    all : (m : ℕ) → m ≤ 12 → m ≤ length g → (m < 12 → m ≡ length g) → take m g ≡ take 12 g
    all m c d e = go (ltb m 12) refl
      where
        go : (t : Bool) → ltb m 12 ≡ t → take m g ≡ take 12 g
        go true q = let z : m ≡ length g = e (ltb-true m 12 q) in take_all m g (omega arith) ∙ sym (take_all 12 g (omega arith))
        go false q = let z : m ≡ 12 = omega (arith, ltb-false m 12 q) in rw z

pub first-front : (n : ℕ) (l : List ℕ) → 0 < n → get_or (front n l) 0 0 ≡ get_or l 0 0
unfolding front
first-front zero l h = absurd (omega arith)
first-front (suc n) l h = refl
