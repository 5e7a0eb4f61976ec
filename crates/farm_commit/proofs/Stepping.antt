-- Parts that go on, one node after another.
use Rattle.std.proofs.Common.{◌≡◌, ◌≢◌, ℕ, ◌+◌, ◌<◌, ◌≤◌, List, Some, length, get_or, slice_get, slice_set, sym, refl, ap, ◌∙◌, subst, arith}
use Rattle.std.proofs.lemmas.Option.{same_Some, slice_get_within, slice_get-get_or, slice_get_read}
use Rattle.std.proofs.lemmas.List.{length-set}
use mathlib.Core.Logic.{dite}
use native.Mathlib.Decide.{ℕ_discrete, dec_lt}
use Rattle.write_set.proofs.Lists.{at_set, at_set_other}
use Rattle.transaction_part.specs.declared.part.Part.{Part}
use Rattle.farm_commit.specs.Nodes.{Lock}
use Rattle.farm_commit.specs.Parts.{EachPart, EachStep, FirstStep}

module _ (locks : List Lock) where
  -- before the first node
  pub first_none : (P : ℕ → Lock → Part → Part → Type 0) (old : List Part) → FirstStep locks 0 P old old
  first_none P old = record { count = refl; done = λ i l p q low. absurd (omega arith); rest = λ i low. refl }

  -- one node more
  pub first_more : (P : ℕ → Lock → Part → Part → Type 0) (n : ℕ) (l : Lock) (p q : Part) (old now new : List Part)
      → slice_get locks n ≡ Some l → slice_get now n ≡ Some p → new ≡ slice_set now n q → P n l p q
      → FirstStep locks n P old now → FirstStep locks (n + 1) P old new
  first_more P n l p q old now new here there is step f = record {
    count = ap length is ∙ (length-set now n q ∙ f.count);
    done = λ i k x y low at was later. dite (ℕ_discrete i n)
        (λ (e : i ≡ n).
        let lock_is : l ≡ k = same_Some l k (sym here ∙ (sym (ap (slice_get locks) e) ∙ at)) in
        let old_is : p ≡ x = same_Some p x (sym there ∙ (f.rest n (omega arith) ∙ (sym (ap (slice_get old) e) ∙ was))) in
        let new_is : q ≡ y = same_Some q y (sym (at_set now n q (slice_get_within now n p there)) ∙ (ap (λ (xs : List Part). slice_get xs n) (sym is)
        ∙ (sym (ap (slice_get new) e) ∙ later))) in
        subst (λ (j : ℕ). P j k x y) (sym e)
        (subst (λ (z : Lock). P n z x y) lock_is (subst (λ (z : Part). P n l z y) old_is (subst (λ (z : Part). P n l p z) new_is step))))
        (λ (ne : i ≢ n). f.done i k x y (omega arith) at was (sym (aside i ne) ∙ later));
    rest = λ i low. aside i (λ (e : i ≡ n). omega arith) ∙ f.rest i (omega arith);
  } where
    aside : (i : ℕ) → i ≢ n → slice_get new i ≡ slice_get now i
    aside i ne = ap (λ (xs : List Part). slice_get xs i) is ∙ at_set_other now n i q ne

  -- all nodes
  pub first_all : (P : ℕ → Lock → Part → Part → Type 0) (n : ℕ) (old new : List Part) → length locks ≤ n
      → FirstStep locks n P old new → EachStep locks P old new
  first_all P n old new low f = record {
    count = f.count;
    each = λ i l p q at was later. f.done i l p q (let s = slice_get_within locks i l at in omega (arith, s, low)) at was later;
  }

  -- where it stops at a node, the first, that one and the others are each so
  pub first_stops : (P Q : ℕ → Lock → Part → Part → Type 0) (n : ℕ) (old new : List Part)
      → ((i : ℕ) (l : Lock) (p q : Part) → slice_get locks i ≡ Some l → slice_get old i ≡ Some p → P i l p q → Q i l p q)
      → ((i : ℕ) (l : Lock) (p : Part) → slice_get locks i ≡ Some l → slice_get old i ≡ Some p → Q i l p p)
      → FirstStep locks n P old new → EachStep locks Q old new
  first_stops P Q n old new done same f = record {
    count = f.count;
    each = λ i l p q at was later. by i l p q at was later;
  } where
    open_or : (i : ℕ) (l : Lock) (p q : Part) → slice_get locks i ≡ Some l → slice_get old i ≡ Some p → slice_get new i ≡ Some q
        → n ≤ i → Q i l p q
    open_or i l p q at was later low =
        subst (λ (z : Part). Q i l p z) (same_Some p q (sym was ∙ (sym (f.rest i low) ∙ later))) (same i l p at was)

    by : (i : ℕ) (l : Lock) (p q : Part) → slice_get locks i ≡ Some l → slice_get old i ≡ Some p → slice_get new i ≡ Some q → Q i l p q
    by i l p q at was later = dite (dec_lt i n)
        (λ (low : i < n). done i l p q at was (f.done i l p q low at was later))
        (λ not. open_or i l p q at was later (omega (arith, not)))

  -- the part at a node
  pub part_at : (P : ℕ → Lock → Part → Type 0) (Q : ℕ → Lock → Part → Part → Type 0) (n : ℕ) (l : Lock) (p : Part) (old now : List Part)
      → slice_get locks n ≡ Some l → slice_get now n ≡ Some p → EachPart locks P old → FirstStep locks n Q old now → P n l p
  part_at P Q n l p old now at there parts f = parts.each n l p at (sym (f.rest n (omega arith)) ∙ there)

  -- what held and the step give what holds then
  pub parts_then : (P R : ℕ → Lock → Part → Type 0) (Q : ℕ → Lock → Part → Part → Type 0) (old new : List Part)
      → ((i : ℕ) (l : Lock) (p q : Part) → slice_get locks i ≡ Some l → P i l p → Q i l p q → R i l q)
      → EachPart locks P old → EachStep locks Q old new → EachPart locks R new
  parts_then P R Q old new then parts step = record {
    count = step.count ∙ parts.count;
    each = λ i l q at later.
        let within : i < length new = slice_get_within new i q later in
        let same = step.count in
        let was = slice_get-get_or old i q (omega (arith, within, same)) in
        then i l _ q at (parts.each i l _ at was) (step.each i l _ q at was later);
  }

  -- two steps
  pub step_then : (P Q R : ℕ → Lock → Part → Part → Type 0) (old mid new : List Part)
      → ((i : ℕ) (l : Lock) (p q s : Part) → slice_get locks i ≡ Some l → slice_get old i ≡ Some p → P i l p q → Q i l q s → R i l p s)
      → EachStep locks P old mid → EachStep locks Q mid new → EachStep locks R old new
  step_then P Q R old mid new then x y = record {
    count = y.count ∙ x.count;
    each = λ i l p s at was later.
        let within : i < length old = slice_get_within old i p was in
        let same = x.count in
        let there = slice_get-get_or mid i p (omega (arith, within, same)) in
        then i l p _ s at was (x.each i l p _ at was there) (y.each i l _ s at there later);
  }

  pub step_weaker : (P Q : ℕ → Lock → Part → Part → Type 0) (old new : List Part)
      → ((i : ℕ) (l : Lock) (p q : Part) → slice_get locks i ≡ Some l → slice_get old i ≡ Some p → P i l p q → Q i l p q)
      → EachStep locks P old new → EachStep locks Q old new
  step_weaker P Q old new weaker x =
      record { count = x.count; each = λ i l p q at was later. weaker i l p q at was (x.each i l p q at was later) }

-- in a loop over the nodes
module _ (locks : List Lock) (P : ℕ → Lock → Part → Type 0) (Q : ℕ → Lock → Part → Part → Type 0) (old now : List Part) (nodes n : ℕ)
    (l : Lock) (p : Part) (counted : length locks ≡ nodes) (low : n < nodes) (lock : l ≡ get_or locks n l) (part : p ≡ get_or now n p)
    (parts : EachPart locks P old) (f : FirstStep locks n Q old now) where
  lock_here : slice_get locks n ≡ Some l
  lock_here = slice_get_read locks nodes n l (sym counted) low lock

  part_here : slice_get now n ≡ Some p
  part_here = slice_get_read now nodes n p (sym (f.count ∙ (parts.count ∙ counted))) low part

  -- the part is as it was,
  pub was_here : slice_get old n ≡ Some p
  was_here = sym (f.rest n (omega arith)) ∙ part_here

  -- so that of it which held,
  pub held_here : P n l p
  held_here = parts.each n l p lock_here was_here

  -- and its step is one more
  pub more_here : (q : Part) → Q n l p q → FirstStep locks (n + 1) Q old (slice_set now n q)
  more_here q step = first_more locks Q n l p q old now (slice_set now n q) lock_here part_here refl step f

  -- after it the part there is that one
  pub there_here : (q : Part) → slice_get (slice_set now n q) n ≡ Some q
  there_here q = at_set now n q (slice_get_within now n p part_here)

  -- where it is the last, and the others stay
  pub last_here : (q : Part) → Q n l p q
      → ((i : ℕ) (k : Lock) (x : Part) → slice_get locks i ≡ Some k → slice_get old i ≡ Some x → P i k x → Q i k x x)
      → EachStep locks Q old (slice_set now n q)
  last_here q step stay = first_stops locks Q Q (n + 1) old (slice_set now n q) (λ i k x y at was s. s)
      (λ i k x at was. stay i k x at was (parts.each i k x at was)) (more_here q step)

pub first_weaker : (locks : List Lock) (P Q : ℕ → Lock → Part → Part → Type 0) (n : ℕ) (old new : List Part)
    → ((i : ℕ) (l : Lock) (p q : Part) → P i l p q → Q i l p q) → FirstStep locks n P old new → FirstStep locks n Q old new
first_weaker locks P Q n old new weaker f =
    record { count = f.count; done = λ i l p q low at was later. weaker i l p q (f.done i l p q low at was later); rest = f.rest }

pub part_weaker : (locks : List Lock) (P Q : ℕ → Lock → Part → Type 0) (parts : List Part) → ((i : ℕ) (l : Lock) (p : Part) → P i l p → Q i l p)
    → EachPart locks P parts → EachPart locks Q parts
part_weaker locks P Q parts weaker x = record { count = x.count; each = λ i l p at here. weaker i l p (x.each i l p at here) }
