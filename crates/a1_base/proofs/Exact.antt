-- Readings of fronts that are exact: what they give is spelled so, and what is spelled so they give.
use Rattle.std.proofs.Common.{◌≡◌, ℕ, zero, suc, ◌<◌, ◌≤◌, ◌^◌, Bool, true, false, cond, List, [], ◌∷◌, ◌++◌, length, take, drop, Option, Some, None, refl, sym, ap, subst, ◌∙◌, append_assoc, append-nil, arith, nat_lt, nat_eq}
use Rattle.std.specs.Prelude.{option_map}
use Rattle.std.specs.List.{flat_map, AllByRecursion}
use Rattle.std.specs.Int.{Width, w32, w64, byte_len, from_be_bytes, to_be_bytes}
use Rattle.std.proofs.lemmas.Bool.{ltb-false, le-ltb, eqb-true}
use Rattle.std.proofs.lemmas.List.{take_at, drop_at, take-append-drop, length-take, length-append, nil_from_length}
use Rattle.std.proofs.lemmas.Nat.{be_bytes_4, be_bytes_8, from_be_bytes-to_be_bytes_4, from_be_bytes-to_be_bytes_8}
use Rattle.std.proofs.lemmas.Option.{option_and_then_some, same_Some, cond_some}
use Rattle.a1_base.specs.Fronts.{IsBytes, Front, byte, part, number, both, made, tested, several, counted, sized, whole, inside, Exact, ExactWhole}

-- every element in front of and behind a place is a byte
pub bytes_front : (front rest : List ℕ) → IsBytes (front ++ rest) → IsBytes front
bytes_front [] rest fits i = omega arith
bytes_front (b ∷ front) rest fits zero = fits 0
bytes_front (b ∷ front) rest fits (suc i) = bytes_front front rest (λ k. fits (suc k)) i

pub bytes_behind : (front rest : List ℕ) → IsBytes (front ++ rest) → IsBytes rest
bytes_behind [] rest fits = fits
bytes_behind (b ∷ front) rest fits = bytes_behind front rest (λ k. fits (suc k))

-- the same values, said otherwise
pub same_exact : {A : Type 0} (p : Front A) (s : A → List ℕ) (P Q : A → Type 0) → Exact p s P → ((a : A) → P a → Q a) → ((a : A) → Q a → P a) → Exact p s Q
same_exact p s P Q first to from = record {
  takes = λ bytes a fits e. let one = first.takes bytes a fits e in (to a.0 one.0, one.1);
  again = λ a rest h. first.again a rest (from a h);
}

-- the value of a step that gave one
pub mapped_some : {A B P : Type 0} (f : A → B) (o : Option A) (y : B) → option_map f o ≡ Some y → ((x : A) → o ≡ Some x → f x ≡ y → P) → P
mapped_some f (Some x) y e next = next x refl (same_Some (f x) y e)
mapped_some f None y e next = absurd cc

byte_exact_takes : (bytes : List ℕ) (a : ℕ × List ℕ) → IsBytes bytes → byte bytes ≡ Some a → (a.0 < 256) × (bytes ≡ (a.0 ∷ []) ++ a.1)
byte_exact_takes [] a fits e = absurd cc
byte_exact_takes (b ∷ rest) a fits e =
    let same : (b, rest) ≡ a = same_Some (b, rest) a e in
    subst (λ (p : ℕ × List ℕ). (p.0 < 256) × ((b ∷ rest) ≡ (p.0 ∷ []) ++ p.1)) same (fits 0, refl)

pub byte_exact : Exact byte (λ b. b ∷ []) (λ b. b < 256)
byte_exact = record { takes = byte_exact_takes; again = λ a rest h. refl }

pub part_exact : (n : ℕ) → Exact (part n) (λ bytes. bytes) (λ bytes. length bytes ≡ n)
part_exact n = record { takes = takes; again = again } where
  takes : (bytes : List ℕ) (a : List ℕ × List ℕ) → IsBytes bytes → part n bytes ≡ Some a → (length a.0 ≡ n) × (bytes ≡ a.0 ++ a.1)
  takes bytes a fits e = by (nat_lt (length bytes) n) refl e where
    by : (t : Bool) → nat_lt (length bytes) n ≡ t → cond t None (Some (take n bytes, drop n bytes)) ≡ Some a → (length a.0 ≡ n) × (bytes ≡ a.0 ++ a.1)
    by true t e = absurd cc
    by false t e =
        let long : n ≤ length bytes = ltb-false (length bytes) n t in
        let same : (take n bytes, drop n bytes) ≡ a = same_Some (take n bytes, drop n bytes) a e in
        subst (λ (p : List ℕ × List ℕ). (length p.0 ≡ n) × (bytes ≡ p.0 ++ p.1)) same (omega (arith, length-take n bytes), sym (take-append-drop n bytes))

  again : (front rest : List ℕ) → length front ≡ n → part n (front ++ rest) ≡ Some (front, rest)
  again front rest e =
      let long : nat_lt (length (front ++ rest)) n ≡ false = le-ltb _ _ (omega (arith, length-append front rest)) in
      rw (long, take_at front rest n e, drop_at front rest n e) refl

-- a width whose bytes and numbers stand for one another
record IsWide (w : Width) (limit : ℕ) : Type 0 where
  len : (n : ℕ) → length (to_be_bytes w n) ≡ byte_len w
  back : (bytes : List ℕ) → length bytes ≡ byte_len w → IsBytes bytes → (from_be_bytes w bytes < limit) × (to_be_bytes w (from_be_bytes w bytes) ≡ bytes)
  again : (n : ℕ) → n < limit → from_be_bytes w (to_be_bytes w n) ≡ n

number_exact : (w : Width) (limit : ℕ) → IsWide w limit → Exact (number w) (to_be_bytes w) (λ n. n < limit)
number_exact w limit wide = record { takes = takes; again = again } where
  takes : (bytes : List ℕ) (a : ℕ × List ℕ) → IsBytes bytes → number w bytes ≡ Some a → (a.0 < limit) × (bytes ≡ to_be_bytes w a.0 ++ a.1)
  takes bytes a fits e = mapped_some (λ p. (from_be_bytes w p.0, p.1)) (part (byte_len w) bytes) a e (λ p read same.
      let t = (part_exact (byte_len w)).takes bytes p fits read in
      let back = wide.back p.0 t.0 (bytes_front p.0 p.1 (subst IsBytes t.1 fits)) in
      subst (λ (q : ℕ × List ℕ). (q.0 < limit) × (bytes ≡ to_be_bytes w q.0 ++ q.1)) same (back.0, t.1 ∙ ap (λ z. z ++ p.1) (sym back.1)))

  again : (n : ℕ) (rest : List ℕ) → n < limit → number w (to_be_bytes w n ++ rest) ≡ Some (n, rest)
  again n rest h = rw ((part_exact (byte_len w)).again (to_be_bytes w n) rest (wide.len n), wide.again n h) refl

wide32 : IsWide w32 (2 ^ 32)
wide32 = record {
  len = λ n. refl;
  back = λ bytes long fits. (omega (arith, fits 0, fits 1, fits 2, fits 3), be_bytes_4 bytes (from_be_bytes w32 bytes) long fits refl);
  again = from_be_bytes-to_be_bytes_4;
}

wide64 : IsWide w64 (2 ^ 64)
wide64 = record {
  len = λ n. refl;
  back = λ bytes long fits. (omega (arith, fits 0, fits 1, fits 2, fits 3, fits 4, fits 5, fits 6, fits 7), be_bytes_8 bytes (from_be_bytes w64 bytes) long fits refl);
  again = from_be_bytes-to_be_bytes_8;
}

pub number32_exact : Exact (number w32) (to_be_bytes w32) (λ n. n < 2 ^ 32)
number32_exact = number_exact w32 (2 ^ 32) wide32

pub number64_exact : Exact (number w64) (to_be_bytes w64) (λ n. n < 2 ^ 64)
number64_exact = number_exact w64 (2 ^ 64) wide64

module _ {A B : Type 0} (p : Front A) (s : A → List ℕ) (P : A → Type 0) (first : Exact p s P) where
  pub both_exact : (q : Front B) (t : B → List ℕ) (Q : B → Type 0) → Exact q t Q → Exact (both p q) (λ x. s x.0 ++ t x.1) (λ x. P x.0 × Q x.1)
  both_exact q t Q second = record { takes = takes; again = again } where
    takes : (bytes : List ℕ) (x : (A × B) × List ℕ) → IsBytes bytes → both p q bytes ≡ Some x → (P x.0.0 × Q x.0.1) × (bytes ≡ (s x.0.0 ++ t x.0.1) ++ x.1)
    takes bytes x fits e = option_and_then_some (λ a. option_map (λ b. ((a.0, b.0), b.1)) (q a.1)) (p bytes) x e (λ a read rest.
        mapped_some (λ b. ((a.0, b.0), b.1)) (q a.1) x rest (λ b read' same.
        let one = first.takes bytes a fits read in
        let two = second.takes a.1 b (bytes_behind (s a.0) a.1 (subst IsBytes one.1 fits)) read' in
        subst (λ (y : (A × B) × List ℕ). (P y.0.0 × Q y.0.1) × (bytes ≡ (s y.0.0 ++ t y.0.1) ++ y.1)) same
        ((one.0, two.0), one.1 ∙ (ap (λ z. s a.0 ++ z) two.1 ∙ sym (append_assoc (s a.0) (t b.0) b.1)))))

    again : (x : A × B) (rest : List ℕ) → P x.0 × Q x.1 → both p q ((s x.0 ++ t x.1) ++ rest) ≡ Some (x, rest)
    again x rest h = ap (both p q) (append_assoc (s x.0) (t x.1) rest) ∙ rw (first.again x.0 (t x.1 ++ rest) h.0, second.again x.1 rest h.1) refl

  -- to and from lead to one another and back
  pub made_exact : (to : A → B) (from : B → A) → ((a : A) → P a → from (to a) ≡ a) → ((b : B) → P (from b) → to (from b) ≡ b) → Exact (made to p) (λ b. s (from b)) (λ b. P (from b))
  made_exact to from back there = record { takes = takes; again = again } where
    takes : (bytes : List ℕ) (b : B × List ℕ) → IsBytes bytes → made to p bytes ≡ Some b → P (from b.0) × (bytes ≡ s (from b.0) ++ b.1)
    takes bytes b fits e = mapped_some (λ a. (to a.0, a.1)) (p bytes) b e (λ a read same.
        let one : P a.0 × (bytes ≡ s a.0 ++ a.1) = first.takes bytes a fits read in
        subst (λ (y : B × List ℕ). P (from y.0) × (bytes ≡ s (from y.0) ++ y.1)) same
        (subst (λ (z : A). P z × (bytes ≡ s z ++ a.1)) (sym (back a.0 one.0)) one))

    again : (b : B) (rest : List ℕ) → P (from b) → made to p (s (from b) ++ rest) ≡ Some (b, rest)
    again b rest h = ap (option_map (λ (a : A × List ℕ). (to a.0, a.1))) (first.again (from b) rest h) ∙ ap (λ (z : B). Some (z, rest)) (there b h)

module _ {A : Type 0} (p : Front A) (s : A → List ℕ) (P : A → Type 0) (first : Exact p s P) where
  pub tested_exact : (test : A → Bool) → Exact (tested test p) s (λ a. P a × (test a ≡ true))
  tested_exact test = record { takes = takes; again = again } where
    takes : (bytes : List ℕ) (a : A × List ℕ) → IsBytes bytes → tested test p bytes ≡ Some a → (P a.0 × (test a.0 ≡ true)) × (bytes ≡ s a.0 ++ a.1)
    takes bytes a fits e = option_and_then_some (λ x. cond (test x.0) (Some x) None) (p bytes) a e (λ x read chosen.
        let c = cond_some (test x.0) x a chosen in
        let one = first.takes bytes x fits read in
        subst (λ (y : A × List ℕ). (P y.0 × (test y.0 ≡ true)) × (bytes ≡ s y.0 ++ y.1)) c.1 ((one.0, c.0), one.1))

    again : (a : A) (rest : List ℕ) → P a × (test a ≡ true) → tested test p (s a ++ rest) ≡ Some (a, rest)
    again a rest h = rw (first.again a rest h.0, h.1) refl

  pub several_exact : (n : ℕ) → Exact (several n p) (flat_map s) (λ xs. AllByRecursion P xs × (length xs ≡ n))
  unfolding several
  several_exact n = record { takes = takes n; again = λ xs rest h. again n xs rest h } where
    takes : (n : ℕ) (bytes : List ℕ) (xs : List A × List ℕ) → IsBytes bytes → several n p bytes ≡ Some xs → (AllByRecursion P xs.0 × (length xs.0 ≡ n)) × (bytes ≡ flat_map s xs.0 ++ xs.1)
    takes zero bytes xs fits e = subst (λ (y : List A × List ℕ). (AllByRecursion P y.0 × (length y.0 ≡ 0)) × (bytes ≡ flat_map s y.0 ++ y.1)) (same_Some ([], bytes) xs e) ((tt, refl), refl)
    takes (suc n) bytes xs fits e = option_and_then_some (λ a. option_map (λ b. (a.0 ∷ b.0, b.1)) (several n p a.1)) (p bytes) xs e (λ a read rest.
        mapped_some (λ b. (a.0 ∷ b.0, b.1)) (several n p a.1) xs rest (λ b read' same.
        let one = first.takes bytes a fits read in
        let two = takes n a.1 b (bytes_behind (s a.0) a.1 (subst IsBytes one.1 fits)) read' in
        subst (λ (y : List A × List ℕ). (AllByRecursion P y.0 × (length y.0 ≡ suc n)) × (bytes ≡ flat_map s y.0 ++ y.1)) same
        (((one.0, two.0.0), ap suc two.0.1), one.1 ∙ (ap (λ z. s a.0 ++ z) two.1 ∙ sym (append_assoc (s a.0) (flat_map s b.0) b.1)))))

    again : (n : ℕ) (xs : List A) (rest : List ℕ) → AllByRecursion P xs × (length xs ≡ n) → several n p (flat_map s xs ++ rest) ≡ Some (xs, rest)
    again zero [] rest h = refl
    again zero (x ∷ xs) rest h = absurd (omega (arith, h.1))
    again (suc n) [] rest h = absurd (omega (arith, h.1))
    again (suc n) (x ∷ xs) rest h =
        ap (several (suc n) p) (append_assoc (s x) (flat_map s xs) rest)
        ∙ rw (first.again x (flat_map s xs ++ rest) h.0.0, again n xs rest (h.0.1, omega (arith, h.1))) refl

  pub counted_exact : Exact (counted p) (λ xs. length xs ∷ flat_map s xs) (λ xs. AllByRecursion P xs × (length xs < 256))
  counted_exact = record { takes = takes; again = again } where
    takes : (bytes : List ℕ) (xs : List A × List ℕ) → IsBytes bytes → counted p bytes ≡ Some xs → (AllByRecursion P xs.0 × (length xs.0 < 256)) × (bytes ≡ (length xs.0 ∷ flat_map s xs.0) ++ xs.1)
    takes bytes xs fits e = option_and_then_some (λ n. several n.0 p n.1) (byte bytes) xs e (λ n read rest.
        let one = byte_exact.takes bytes n fits read in
        let two = (several_exact n.0).takes n.1 xs (bytes_behind (n.0 ∷ []) n.1 (subst IsBytes one.1 fits)) rest in
        ((two.0.0, omega (arith, one.0, two.0.1)), one.1 ∙ (ap (λ k. k ∷ n.1) (sym two.0.1) ∙ ap (λ z. length xs.0 ∷ z) two.1)))

    again : (xs : List A) (rest : List ℕ) → AllByRecursion P xs × (length xs < 256) → counted p ((length xs ∷ flat_map s xs) ++ rest) ≡ Some (xs, rest)
    again xs rest h = (several_exact (length xs)).again xs rest (h.0, refl)

  pub whole_exact : ExactWhole (whole p) s P
  whole_exact = record { takes = takes; again = again } where
    takes : (bytes : List ℕ) (a : A) → IsBytes bytes → whole p bytes ≡ Some a → P a × (bytes ≡ s a)
    takes bytes a fits e = option_and_then_some (λ x. cond (nat_eq (length x.1) 0) (Some x.0) None) (p bytes) a e (λ x read chosen.
        let c = cond_some (nat_eq (length x.1) 0) x.0 a chosen in
        let one = first.takes bytes x fits read in
        let nothing : x.1 ≡ [] = nil_from_length x.1 (eqb-true _ _ c.0) in
        subst (λ (y : A). P y × (bytes ≡ s y)) c.1 (one.0, one.1 ∙ (ap (λ z. s x.0 ++ z) nothing ∙ append-nil (s x.0))))

    again : (a : A) → P a → whole p (s a) ≡ Some a
    again a h = ap (whole p) (sym (append-nil (s a))) ∙ rw (first.again a [] h) refl

pub sized_exact : (size : Front ℕ) (t : ℕ → List ℕ) (Q : ℕ → Type 0) → Exact size t Q → Exact (sized size) (λ b. t (length b) ++ b) (λ b. Q (length b))
sized_exact size t Q first = record { takes = takes; again = again } where
  takes : (bytes : List ℕ) (b : List ℕ × List ℕ) → IsBytes bytes → sized size bytes ≡ Some b → Q (length b.0) × (bytes ≡ (t (length b.0) ++ b.0) ++ b.1)
  takes bytes b fits e = option_and_then_some (λ n. part n.0 n.1) (size bytes) b e (λ n read cut.
      let one = first.takes bytes n fits read in
      let two = (part_exact n.0).takes n.1 b (bytes_behind (t n.0) n.1 (subst IsBytes one.1 fits)) cut in
      (subst Q (sym two.0) one.0, one.1 ∙ (ap (λ z. t n.0 ++ z) two.1 ∙ (ap (λ k. t k ++ (b.0 ++ b.1)) (sym two.0) ∙ sym (append_assoc (t (length b.0)) b.0 b.1)))))

  again : (b rest : List ℕ) → Q (length b) → sized size ((t (length b) ++ b) ++ rest) ≡ Some (b, rest)
  again b rest h = ap (sized size) (append_assoc (t (length b)) b rest) ∙ rw (first.again (length b) (b ++ rest) h, (part_exact (length b)).again b rest refl) refl

-- a value that is all of a part with its length in front
pub inside_exact : {A : Type 0} (size : Front ℕ) (t : ℕ → List ℕ) (Q : ℕ → Type 0) → Exact size t Q
    → (read : List ℕ → Option A) (s : A → List ℕ) (P : A → Type 0) → ExactWhole read s P
    → Exact (inside (sized size) read) (λ a. t (length (s a)) ++ s a) (λ a. P a × Q (length (s a)))
inside_exact {A} size t Q outer read s P inner = record { takes = takes; again = again } where
  around : Exact (sized size) (λ b. t (length b) ++ b) (λ b. Q (length b))
  around = sized_exact size t Q outer

  takes : (bytes : List ℕ) (a : A × List ℕ) → IsBytes bytes → inside (sized size) read bytes ≡ Some a → (P a.0 × Q (length (s a.0))) × (bytes ≡ (t (length (s a.0)) ++ s a.0) ++ a.1)
  takes bytes a fits e = option_and_then_some (λ b. option_map (λ x. (x, b.1)) (read b.0)) (sized size bytes) a e (λ b cut rest.
      mapped_some (λ x. (x, b.1)) (read b.0) a rest (λ x found same.
      let one = around.takes bytes b fits cut in
      let within = bytes_behind (t (length b.0)) b.0 (bytes_front (t (length b.0) ++ b.0) b.1 (subst IsBytes one.1 fits)) in
      let two = inner.takes b.0 x within found in
      subst (λ (y : A × List ℕ). (P y.0 × Q (length (s y.0))) × (bytes ≡ (t (length (s y.0)) ++ s y.0) ++ y.1)) same
      (subst (λ (z : List ℕ). (P x × Q (length z)) × (bytes ≡ (t (length z) ++ z) ++ b.1)) two.1 ((two.0, one.0), one.1))))

  again : (a : A) (rest : List ℕ) → P a × Q (length (s a)) → inside (sized size) read ((t (length (s a)) ++ s a) ++ rest) ≡ Some (a, rest)
  again a rest h = rw (around.again (s a) rest h.1, inner.again a h.0) refl
