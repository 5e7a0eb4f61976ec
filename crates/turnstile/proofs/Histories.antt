-- Entries by number, and lists that begin others.
use Rattle.std.proofs.Common.{◌≡◌, ◌≢◌, ◌⊎◌, ℕ, zero, suc, ◌+◌, ◌<◌, ◌≤◌, ◌==◌, List, [], ◌∷◌, ◌++◌, length, sym, refl, ap, ◌∙◌, subst, inl, inr, ⊎_elim, arith, append_assoc, append-nil}
use Rattle.std.proofs.lemmas.List.Elements.{filter-append}
use Rattle.std.proofs.lemmas.Bool.{cond_both, cond-true, eqb-true, eqb-false, eq-eqb}
use Rattle.turnstile.specs.Entries.{AllOf, EachOnce, without, up_to}
use Rattle.a1_base.specs.Lists.{IsAmong, BeginsWith, entries_of}

module _ {E : Type 0} (number : E → ℕ) where
  pub of_append : (k : ℕ) (xs ys : List E) → entries_of number k (xs ++ ys) ≡ entries_of number k xs ++ entries_of number k ys
  of_append k = filter-append (λ e. number e == k)

  pub of_none : (k : ℕ) (numbers : List ℕ) (es : List E) → AllOf number numbers es → (IsAmong k numbers → ⊥) → entries_of number k es ≡ []
  of_none k numbers [] all not = refl
  of_none k numbers (e ∷ es) all not =
      cond_both (number e == k) (e ∷ entries_of number k es) (entries_of number k es) (λ z. z ≡ [])
      (λ is. absurd (not (subst (λ z. IsAmong z numbers) (eqb-true (number e) k is) all.0))) (λ _. of_none k numbers es all.1 not)

  -- entries of other numbers leave those of k
  pub of_more : (k : ℕ) (numbers : List ℕ) (xs es : List E) → AllOf number numbers es → (IsAmong k numbers → ⊥) → entries_of number k (xs ++ es) ≡ entries_of number k xs
  of_more k numbers xs es all not = of_append k xs es ∙ (ap (λ (z : List E). entries_of number k xs ++ z) (of_none k numbers es all not) ∙ append-nil (entries_of number k xs))

module _ {E : Type 0} where
  pub begins_itself : (log : List E) → BeginsWith log log
  begins_itself log = ([], sym (append-nil log))

  pub begins_none : (log : List E) → BeginsWith log []
  begins_none log = (log, refl)

  pub begins_more : (log seen new : List E) → BeginsWith log seen → BeginsWith (log ++ new) seen
  begins_more log seen new (rest, is) = (rest ++ new, ap (λ (z : List E). z ++ new) is ∙ append_assoc seen rest new)

-- numbers
pub without_else : (k j : ℕ) (ns : List ℕ) → IsAmong j (without k ns) → IsAmong j ns × (j ≢ k)
without_else k j [] = λ h. absurd h
without_else k j (x ∷ xs) = cond_both (x == k) (without k xs) (x ∷ without k xs) (λ z. IsAmong j z → IsAmong j (x ∷ xs) × (j ≢ k))
    (λ _ h. let r = without_else k j xs h in (inr r.0, r.1))
    (λ ne. ⊎_elim (λ e. (inl e, λ z. eqb-false x k ne (e ∙ z))) (λ h. let r = without_else k j xs h in (inr r.0, r.1)))

pub without_has : (k j : ℕ) (ns : List ℕ) → IsAmong j ns → j ≢ k → IsAmong j (without k ns)
without_has k j [] h ne = absurd h
without_has k j (x ∷ xs) h ne = cond_both (x == k) (without k xs) (x ∷ without k xs) (IsAmong j)
    (λ is. ⊎_elim (λ e. absurd (ne (sym e ∙ eqb-true x k is))) (λ h'. without_has k j xs h' ne) h)
    (λ _. ⊎_elim (λ e. inl e) (λ h'. inr (without_has k j xs h' ne)) h)

pub without_le : (k : ℕ) (ns : List ℕ) → length (without k ns) ≤ length ns
without_le k [] = omega arith
without_le k (x ∷ xs) = let r = without_le k xs in cond_both (x == k) (without k xs) (x ∷ without k xs) (λ z. length z ≤ suc (length xs)) (λ _. omega arith) (λ _. omega arith)

pub without_less : (k : ℕ) (ns : List ℕ) → IsAmong k ns → length (without k ns) + 1 ≤ length ns
without_less k [] h = absurd h
without_less k (x ∷ xs) h = cond_both (x == k) (without k xs) (x ∷ without k xs) (λ z. length z + 1 ≤ suc (length xs))
    (λ _. let r = without_le k xs in omega arith)
    (λ ne. ⊎_elim (λ e. absurd (eqb-false x k ne e)) (λ h'. let r = without_less k xs h' in omega arith) h)

pub has_some : (k : ℕ) (ns : List ℕ) → IsAmong k ns → 0 < length ns
has_some k [] h = absurd h
has_some k (x ∷ xs) h = omega arith

pub has_first : (ns : List ℕ) → 0 < length ns → (k : ℕ) × IsAmong k ns
has_first [] h = absurd (omega arith)
has_first (x ∷ xs) h = (x, inl refl)

pub has_either : (k : ℕ) (ns ms : List ℕ) → IsAmong k (ns ++ ms) → IsAmong k ns ⊎ IsAmong k ms
has_either k [] ms h = inr h
has_either k (x ∷ xs) ms h = ⊎_elim (λ (e : x ≡ k). inl (inl e)) (λ h'. ⊎_elim (λ p. inl (inr p)) (λ q. inr q) (has_either k xs ms h')) h

pub up_to_has : (k n : ℕ) → IsAmong k (up_to n) → (0 < k) × (k ≤ n)
up_to_has k zero h = absurd h
up_to_has k (suc n) h = ⊎_elim (λ (e : suc n ≡ k). ((omega arith), (omega arith))) (λ h'. let r = up_to_has k n h' in (r.0, (let q = r.1 in omega arith))) h

pub up_to_length : (n : ℕ) → length (up_to n) ≡ n
up_to_length zero = refl
up_to_length (suc n) = ap suc (up_to_length n)

-- numbers that stand once each
pub once_up_to : (n : ℕ) → EachOnce (up_to n)
once_up_to zero = tt
once_up_to (suc n) = ((λ h. let r = (up_to_has (suc n) n h).1 in omega arith), once_up_to n)

pub once_without : (k : ℕ) (ns : List ℕ) → EachOnce ns → EachOnce (without k ns)
once_without k [] once = tt
once_without k (x ∷ xs) once = cond_both (x == k) (without k xs) (x ∷ without k xs) EachOnce (λ _. once_without k xs once.1)
    (λ _. ((λ h. once.0 (without_else k x xs h).0), once_without k xs once.1))

pub once_both : (ns ms : List ℕ) → EachOnce ns → EachOnce ms → ((k : ℕ) → IsAmong k ns → IsAmong k ms → ⊥) → EachOnce (ns ++ ms)
once_both [] ms once once' apart = once'
once_both (x ∷ xs) ms once once' apart =
    ((λ h. ⊎_elim once.0 (apart x (inl refl)) (has_either x xs ms h)), once_both xs ms once.1 once' (λ k p. apart k (inr p)))

has_right : (k : ℕ) (ns ms : List ℕ) → IsAmong k ms → IsAmong k (ns ++ ms)
has_right k [] ms h = h
has_right k (x ∷ xs) ms h = inr (has_right k xs ms h)

pub once_apart : (ns ms : List ℕ) → EachOnce (ns ++ ms) → (k : ℕ) → IsAmong k ns → IsAmong k ms → ⊥
once_apart [] ms once k p q = absurd p
once_apart (x ∷ xs) ms once k p q = ⊎_elim (λ (e : x ≡ k). once.0 (subst (λ z. IsAmong z (xs ++ ms)) (sym e) (has_right k xs ms q))) (λ h. once_apart xs ms once.1 k h q) p

-- lists of entries that begin one list
module _ {E : Type 0} where
  pub no_rest : (xs ys : List E) → xs ++ ys ≡ xs → ys ≡ []
  no_rest [] ys e = e
  no_rest (x ∷ xs) ys e = no_rest xs ys (let p : xs ++ ys ≡ xs = cc in p)

  -- of two lists that begin one list, the shorter begins the longer
  pub between : (log a b : List E) → BeginsWith log a → BeginsWith log b → length a ≤ length b → BeginsWith b a
  between log [] b p q le = (b, refl)
  between log (x ∷ a) [] p q le = absurd (omega arith)
  between log (x ∷ a) (y ∷ b) p q le =
      let same : x ∷ (a ++ p.0) ≡ y ∷ (b ++ q.0) = sym p.1 ∙ q.1 in
      let here : x ≡ y = cc in
      let there : a ++ p.0 ≡ b ++ q.0 = cc in
      let r = between (a ++ p.0) a b (p.0, refl) (q.0, there) (omega arith) in
      (r.0, ap (λ (z : List E). y ∷ z) r.1 ∙ ap (λ (z : E). z ∷ (a ++ r.0)) (sym here))

module _ {E : Type 0} (number : E → ℕ) where
  -- who has seen all entries of a number sees them in each longer list
  pub of_between : (k : ℕ) (log a b : List E) → BeginsWith log b → BeginsWith b a → entries_of number k log ≡ entries_of number k a → entries_of number k log ≡ entries_of number k b
  of_between k log a b p q is =
      let more : List E = q.0 ++ p.0 in
      let whole : log ≡ a ++ more = p.1 ∙ (ap (λ (z : List E). z ++ p.0) q.1 ∙ append_assoc a q.0 p.0) in
      let sum : entries_of number k a ++ entries_of number k more ≡ entries_of number k a = sym (of_append number k a more) ∙ (sym (ap (entries_of number k) whole) ∙ is) in
      let none : entries_of number k more ≡ [] = no_rest (entries_of number k a) (entries_of number k more) sum in
      let split : entries_of number k q.0 ++ entries_of number k p.0 ≡ [] = sym (of_append number k q.0 p.0) ∙ none in
      let last : entries_of number k p.0 ≡ [] = nothing (entries_of number k q.0) (entries_of number k p.0) split in
      ap (entries_of number k) p.1 ∙ (of_append number k b p.0 ∙ (ap (λ (z : List E). entries_of number k b ++ z) last ∙ append-nil (entries_of number k b))) where
        nothing : (xs ys : List E) → xs ++ ys ≡ [] → ys ≡ []
        nothing [] ys e = e
        nothing (x ∷ xs) ys e = cc

  -- a list with no more entries of any number has no more at all
  pub whole : (log seen : List E) → BeginsWith log seen → ((k : ℕ) → entries_of number k log ≡ entries_of number k seen) → log ≡ seen
  whole log seen (more, is) own = is ∙ (ap (λ (z : List E). seen ++ z) (none more (λ k. no_rest (entries_of number k seen) (entries_of number k more)
      (sym (of_append number k seen more) ∙ (sym (ap (entries_of number k) is) ∙ own k)))) ∙ append-nil seen) where
        none : (es : List E) → ((k : ℕ) → entries_of number k es ≡ []) → es ≡ []
        none [] all = refl
        none (e ∷ es) all = let first : e ∷ entries_of number (number e) es ≡ [] = sym (cond-true (number e == number e) (e ∷ entries_of number (number e) es) (entries_of number (number e) es) (eq-eqb (number e) (number e) refl)) ∙ all (number e) in cc
