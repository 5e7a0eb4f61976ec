-- Parts at all nodes, one more and one changed.
use Rattle.std.proofs.Common.{◌≡◌, ◌≢◌, ℕ, ◌+◌, ◌<◌, List, [], ◌∷◌, ◌++◌, Some, length, slice_get, slice_set, sym, ap, ◌∙◌, subst, inl, inr, arith, length-append}
use Rattle.std.proofs.Math.ListN.{length-set}
use Rattle.std.proofs.lemmas.Option.{none-some, same_Some, slice_get_within}
use mathlib.Core.Logic.{dite}
use native.Mathlib.Decide.{ℕ_discrete}
use Rattle.turnstile.specs.Passes.{pass_count}
use Rattle.write_set.proofs.Lists.{at_set, at_set_other, at_pushed}
use Rattle.transaction_part.specs.declared.part.Part.{Part}
use Rattle.farm_commit.specs.Nodes.{HavePasses, Lock}
use Rattle.farm_commit.specs.Parts.{EachPart}

module _ (P : ℕ → Lock → Part → Type 0) where
  -- no part at no node
  pub each_none : (locks : List Lock) (parts : List Part) → locks ≡ [] → parts ≡ [] → EachPart locks P parts
  each_none locks parts no_lock no_part = record {
    count = ap (length {A = Part}) no_part ∙ sym (ap (length {A = Lock}) no_lock);
    each = λ i l p at_l at_p. absurd (none-some l (sym (ap (λ (ls : List Lock). slice_get ls i) no_lock) ∙ at_l));
  }

  -- one node more, and a part there
  pub each_more : (locks : List Lock) (parts : List Part) (l : Lock) (p : Part) → P (length locks) l p
      → EachPart locks P parts → EachPart (locks ++ l ∷ []) P (parts ++ p ∷ [])
  each_more locks parts l p here r = record {
    count = length-append parts (p ∷ []) ∙ (ap (λ (n : ℕ). n + 1) r.count ∙ sym (length-append locks (l ∷ [])));
    each = λ i m q at_m at_q.
        let same : length parts ≡ length locks = r.count in
        elim (at_pushed locks l i m at_m) [
          | inl before ↦ elim (at_pushed parts p i q at_q) [
            | inl old ↦ r.each i m q before old
            | inr last ↦
                let low : i < length locks = slice_get_within locks i m before in
                let high : i ≡ length parts = last.0 in
                absurd (omega arith)
          ]
          | inr end ↦ elim (at_pushed parts p i q at_q) [
            | inl old ↦
                let low : i < length parts = slice_get_within parts i q old in
                let high : i ≡ length locks = end.0 in
                absurd (omega arith)
            | inr last ↦
                subst (λ (n : ℕ). P n m q) (sym end.0)
                (subst (λ (z : Lock). P (length locks) z q) (sym end.1)
                (subst (λ (z : Part). P (length locks) l z) (sym last.1) here))
          ]
        ];
  }

  module _ (Q : ℕ → Lock → Part → Type 0) (locks : List Lock) (parts : List Part) (r : EachPart locks P parts) where
    -- what follows at each node from what holds there
    pub each_weaker : ((i : ℕ) (l : Lock) (p : Part) → i < length locks → P i l p → Q i l p) → EachPart locks Q parts
    each_weaker f = record {
      count = r.count;
      each = λ i l p at_l at_p. f i l p (slice_get_within locks i l at_l) (r.each i l p at_l at_p);
    }

    -- another part at one node
    pub each_set : (n : ℕ) (q : Part) → ((i : ℕ) (l : Lock) (p : Part) → i ≢ n → P i l p → Q i l p)
        → ((l : Lock) → slice_get locks n ≡ Some l → Q n l q) → EachPart locks Q (slice_set parts n q)
    each_set n q others here = record {
      count = length-set parts n q ∙ r.count;
      each = λ i l p at_l at_p. dite (ℕ_discrete i n)
          (λ (e : i ≡ n).
          let count : length (slice_set parts n q) ≡ length parts = length-set parts n q in
          let low : i < length (slice_set parts n q) = slice_get_within (slice_set parts n q) i p at_p in
          let there : slice_get (slice_set parts n q) i ≡ Some q =
          ap (slice_get (slice_set parts n q)) e ∙ at_set parts n q (omega arith) in
          let is : p ≡ q = same_Some p q (sym at_p ∙ there) in
          subst (λ (j : ℕ). Q j l p) (sym e)
          (subst (λ (z : Part). Q n l z) (sym is) (here l (ap (slice_get locks) (sym e) ∙ at_l))))
          (λ (ne : i ≢ n). others i l p ne (r.each i l p at_l (sym (at_set_other parts n i q ne) ∙ at_p)));
    }

-- one turnstile more, with a pass for each actor
pub passes_more : (locks : List Lock) (lock : Lock) (actors : ℕ) → HavePasses locks actors → pass_count lock ≡ actors → HavePasses (locks ++ lock ∷ []) actors
passes_more locks lock actors have count i l is = elim (at_pushed locks lock i l is) [
  | inl before ↦ have i l before
  | inr last ↦ ap (λ (k : Lock). pass_count k) last.1 ∙ count
]
