-- Loops over lists: what a turn of a copy, of a shift up and of a shift down does, stated by what is left. Assumes nothing.
use Prim.Native.Nat.{ℕ, zero, suc, ◌+◌, ◌-◌, ◌≤◌, ◌<◌}
use mathlib.Core.Path.{◌≡◌, refl, sym, ap, ◌∙◌}
use mathlib.Core.List.{List, [], ◌∷◌, ◌++◌, append_assoc, append-nil}
use native.Mathlib.Numerals.{add-one}
use native.Mathlib.Omega.{arith}
use lib.ListN.{length, get_or, take, drop, set, replicate, length-set}
use Rattle.std.proofs.lemmas.List.{take_all, drop_all}
use lib.Seq.{length-take-le, slice, slice-cons, slice_empty, take-take, take-suc-set, take-set-lt, drop-set-lt, take-suc, drop-cons, set_at, get_or_at}

-- A suffix of a constant list.
pub drop_replicate : {A : Type 0} (i n : ℕ) (a : A) → i ≤ n → drop i (replicate n a) ≡ replicate (n - i) a
drop_replicate zero n a h =
    let e : n ≡ n - 0 = omega arith in
    ap (λ k. replicate k a) e
drop_replicate (suc i) zero a h = absurd (omega arith)
drop_replicate (suc i) (suc n) a h =
    let e : n - i ≡ suc n - suc i = omega arith in
    drop_replicate i n a (omega arith) ∙ ap (λ k. replicate k a) e

-- A copy of all of a list over one as long is that list.
pub copied_all : {A : Type 0} (n : ℕ) (s d : List A) → length s ≡ n → length d ≡ n → take n s ++ drop n d ≡ s
copied_all n s d h k = rw (take_all n s (omega arith), drop_all n d (omega arith)) (append-nil s)

-- A copy of the first i elements of s over d.
pub record Copied {A : Type 0} (n : ℕ) (s d l : List A) (i : ℕ) : Type 0 where
  pub within : i ≤ n
  pub from : n ≤ length s
  pub to : n ≤ length d
  pub at : l ≡ take i s ++ drop i d

module _ {A : Type 0} (n : ℕ) (s d : List A) where
  pub copy_start : n ≤ length s → n ≤ length d → Copied n s d d 0
  copy_start f t = record { within = omega arith; from = f; to = t; at = refl }

  pub copy_step : (l : List A) (i : ℕ) (z v : A) → Copied n s d l i → i < n → v ≡ get_or s i z → Copied n s d (set l i v) (i + 1)
  copy_step l i z v h k e =
      let hs : i < length s = omega (arith, h.from) in
      let hd : i < length d = omega (arith, h.to) in
      let p : l ≡ take i s ++ get_or d i z ∷ drop (suc i) d = h.at ∙ ap (λ r. take i s ++ r) (drop-cons d i z hd) in
      let q : set l i v ≡ take i s ++ v ∷ drop (suc i) d =
      ap (λ r. set r i v) p ∙ set_at (take i s) (get_or d i z) (drop (suc i) d) v i (length-take-le i s (omega arith)) in
      let r : take (suc i) s ++ drop (suc i) d ≡ take i s ++ v ∷ drop (suc i) d =
      ap (λ r. r ++ drop (suc i) d) (take-suc s i z hs) ∙ append_assoc (take i s) (get_or s i z ∷ []) (drop (suc i) d) ∙ ap (λ a. take i s ++ a ∷ drop (suc i) d) (sym e) in
      record {
        within = omega arith;
        from = h.from;
        to = h.to;
        at = rw (add-one i) (q ∙ sym r);
      }

  -- What is next is not copied over yet.
  pub copy_next : (l : List A) (i : ℕ) (z : A) → Copied n s d l i → i < n → get_or l i z ≡ get_or d i z
  copy_next l i z h k =
      let hd : i < length d = omega (arith, h.to) in
      ap (λ r. get_or r i z) (h.at ∙ ap (λ r. take i s ++ r) (drop-cons d i z hd))
      ∙ get_or_at (take i s) (get_or d i z) (drop (suc i) d) z i (length-take-le i s (omega (arith, h.from)))

  pub copy_end : (l : List A) (i : ℕ) → Copied n s d l i → n ≤ i → l ≡ take n s ++ drop n d
  copy_end l i h k =
      let e : i ≡ n = omega (arith, h.within) in
      h.at ∙ ap (λ k. take k s ++ drop k d) e

-- A store changes nothing of the part behind it.
pub slice_set : {A : Type 0} (j n : ℕ) (l : List A) (a : A) → j < n → slice (suc j) n (set l j a) ≡ slice (suc j) n l
slice_set j n l a h = ap (drop (suc j)) (take-set-lt n l j a h) ∙ drop-set-lt (suc j) (take n l) j a (omega arith)

-- A shift up from place i: an element is carried to place j.
pub record Opened {A : Type 0} (i n : ℕ) (a : A) (s l : List A) (carry : A) (j : ℕ) : Type 0 where
  pub low : i ≤ j
  pub within : j ≤ n
  pub room : n < length l
  pub at : take j l ++ carry ∷ slice j n l ≡ take i (take n s) ++ a ∷ drop i (take n s)

module _ {A : Type 0} (i n : ℕ) (a : A) (s : List A) where
  pub open_start : i ≤ n → n < length s → Opened i n a s s a i
  open_start h k =
      record { low = omega arith; within = h; room = k; at = ap (λ r. r ++ a ∷ slice i n s) (sym (take-take i n s h)) }

  pub open_step : (l : List A) (carry : A) (j : ℕ) (z : A) → Opened i n a s l carry j → j < n
      → Opened i n a s (set l j carry) (get_or l j z) (j + 1)
  open_step l carry j z h k =
      let room : n < length l = h.room in
      let p : take (suc j) (set l j carry) ≡ take j l ++ carry ∷ [] = take-suc-set l j carry (omega arith) in
      let q : slice j n l ≡ get_or l j z ∷ slice (suc j) n l = slice-cons j n l z k (omega arith) in
      let r : take (suc j) (set l j carry) ++ get_or l j z ∷ slice (suc j) n (set l j carry) ≡ take j l ++ carry ∷ slice j n l =
      (λ x. p x ++ get_or l j z ∷ slice_set j n l carry k x)
      ∙ append_assoc (take j l) (carry ∷ []) (get_or l j z ∷ slice (suc j) n l)
      ∙ ap (λ x. take j l ++ carry ∷ x) (sym q) in
      record {
        low = omega (arith, h.low);
        within = omega arith;
        room = rw length-set room;
        at = rw (add-one j) (r ∙ h.at);
      }

  pub open_end : (l : List A) (carry : A) (j : ℕ) → Opened i n a s l carry j → n ≤ j
      → take (n + 1) (set l n carry) ≡ take i (take n s) ++ a ∷ drop i (take n s)
  open_end l carry j h k =
      let e : j ≡ n = omega (arith, h.within) in
      rw (add-one n)
      (take-suc-set l n carry h.room
      ∙ ap (λ r. take n l ++ carry ∷ r) (sym (slice_empty n l))
      ∙ ap (λ k. take k l ++ carry ∷ slice k n l) (sym e)
      ∙ h.at)

-- A shift down to place i: the part behind place j is to follow the part before it.
pub record Closed {A : Type 0} (i n : ℕ) (s l : List A) (j : ℕ) : Type 0 where
  pub low : i ≤ j
  pub within : j < n
  pub room : n ≤ length l
  pub at : take j l ++ slice (suc j) n l ≡ take i (take n s) ++ drop (suc i) (take n s)

module _ {A : Type 0} (i n : ℕ) (s : List A) where
  pub close_start : i < n → n ≤ length s → Closed i n s s i
  close_start h k =
      record { low = omega arith; within = h; room = k; at = ap (λ r. r ++ slice (suc i) n s) (sym (take-take i n s (omega arith))) }

  pub close_step : (l : List A) (j : ℕ) (z v : A) → Closed i n s l j → j + 1 < n → v ≡ get_or l (j + 1) z → Closed i n s (set l j v) (j + 1)
  close_step l j z v h k g =
      let room : n ≤ length l = h.room in
      let k' : suc j < n = omega arith in
      let p : take (suc j) (set l j v) ≡ take j l ++ v ∷ [] = take-suc-set l j v (omega arith) in
      let d : get_or l (suc j) z ≡ v = ap (λ k. get_or l k z) (sym (add-one j)) ∙ sym g in
      let q : slice (suc j) n l ≡ v ∷ slice (suc (suc j)) n l = slice-cons (suc j) n l z k' room ∙ ap (λ x. x ∷ slice (suc (suc j)) n l) d in
      let t : slice (suc (suc j)) n (set l j v) ≡ slice (suc (suc j)) n l =
      ap (drop (suc (suc j))) (take-set-lt n l j v (omega arith)) ∙ drop-set-lt (suc (suc j)) (take n l) j v (omega arith) in
      let r : take (suc j) (set l j v) ++ slice (suc (suc j)) n (set l j v) ≡ take j l ++ slice (suc j) n l =
      (λ x. p x ++ t x)
      ∙ append_assoc (take j l) (v ∷ []) (slice (suc (suc j)) n l)
      ∙ ap (λ x. take j l ++ x) (sym q) in
      record {
        low = omega (arith, h.low);
        within = omega arith;
        room = rw length-set room;
        at = rw (add-one j) (r ∙ h.at);
      }

  pub close_end : (l : List A) (j : ℕ) → Closed i n s l j → n ≤ j + 1 → take (n - 1) l ≡ take i (take n s) ++ drop (suc i) (take n s)
  close_end l j h k =
      let w : j < n = h.within in
      let e : n - 1 ≡ j = omega arith in
      let f : suc j ≡ n = omega arith in
      ap (λ k. take k l) e
      ∙ sym (append-nil (take j l))
      ∙ ap (λ r. take j l ++ r) (sym (slice_empty n l))
      ∙ ap (λ k. take j l ++ slice k n l) (sym f)
      ∙ h.at
