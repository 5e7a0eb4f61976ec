-- Passes that are joined node by node, and nodes that are closed.
use Rattle.std.proofs.Common.{◌≡◌, ◌⊎◌, ℕ, ◌+◌, ◌<◌, ◌≤◌, List, [], ◌∷◌, ◌++◌, Option, Some, None, length, get_or, slice_get, slice_set, sym, refl, ap, ◌∙◌, subst, inl, inr, arith, length-append}
use Rattle.std.proofs.lemmas.Option.{none-some, same_Some, slice_get_within, slice_get-get_or, slice_get_read}
use Rattle.std.proofs.lemmas.List.{length-set}
use Rattle.a1_base.specs.Lists.{IsAmong, BeginsWith, entries_of}
use Rattle.farm_node.specs.declared.node.Node.{Node}
use Rattle.farm_node.specs.declared.entry.Entry.{Entry}
use Rattle.farm_node.specs.Story.{number_of}
use Rattle.turnstile.specs.Passes.{numbers, pass_count, seen}
use Rattle.write_set.proofs.Lists.{at_pushed, at_set_other}
use Rattle.transaction_part.specs.declared.part.Part.{Part}
use Rattle.transaction_part.specs.Part.{SitsAt, log, log_in}
use Rattle.transaction_part.proofs.Telling.{begins_same, begins_then}
use Rattle.transaction_part.proofs.Lists.{among_front, among_last}
use Rattle.farm_commit.specs.declared.actor.Actor.{Actor}
use Rattle.farm_commit.specs.Nodes.{HavePasses, Lock}
use Rattle.farm_commit.specs.Parts.{EachPart}
use Rattle.farm_commit.specs.Closing.{ClosesNode, ClosesNodes}
use Rattle.farm_commit.specs.Ending.{Ends, EndsAll, IsThere, IsWhole, Joins, JoinsAll, JoinsFirst, Knows}
use Rattle.farm_commit.proofs.Committed.{none_within}
use Rattle.farm_commit.proofs.Stepping.{first_all, first_none, held_here, more_here}

-- one node of the two rows
module _ (locks : List Lock) (n : ℕ) (l : Lock) (p q : Part) (row left old now : List Part) (low : n < length locks)
    (lock : l ≡ get_or locks n l) (into : p ≡ get_or now n p) (from : q ≡ get_or left n q)
    (parts : EachPart locks (λ _ k x. IsThere k x.pass) old) (rest : EachPart locks (λ _ k x. IsThere k x.pass) row)
    (f : JoinsFirst locks n row left old now) where
  lock_is : slice_get locks n ≡ Some l
  lock_is = slice_get_read locks (length locks) n l refl low lock

  row_is : slice_get row n ≡ Some q
  row_is = sym (f.rest n (omega arith)) ∙ slice_get_read left (length locks) n q (sym (f.count ∙ rest.count)) low from

  pub both_there : IsThere l p.pass × IsThere l q.pass
  both_there = (
    held_here locks (λ _ k x. IsThere k x.pass) (λ i k x z. (y : Part) → slice_get row i ≡ Some y → Joins k x.pass y.pass z.pass) old now
        (length locks) n l p refl low lock into parts f.step,
    rest.each n l q lock_is row_is,
  )

  pub joins_more : (r s : Part) → Joins l p.pass q.pass r.pass
      → JoinsFirst locks (n + 1) row (slice_set left n s) old (slice_set now n r)
  joins_more r s joins = record {
    step = more_here locks (λ _ k x. IsThere k x.pass) (λ i k x z. (y : Part) → slice_get row i ≡ Some y → Joins k x.pass y.pass z.pass) old now
        (length locks) n l p refl low lock into parts f.step r
        (λ y at. subst (λ (z : Part). Joins l p.pass z.pass r.pass) (same_Some q y (sym row_is ∙ at)) joins);
    count = length-set left n s ∙ f.count;
    rest = λ i past. at_set_other left n i s (λ (e : i ≡ n). omega arith) ∙ f.rest i (omega arith);
  }

pub joins_none : (locks : List Lock) (row old : List Part) → JoinsFirst locks 0 row row old old
joins_none locks row old = record {
  step = first_none locks (λ i k x z. (y : Part) → slice_get row i ≡ Some y → Joins k x.pass y.pass z.pass) old;
  count = refl;
  rest = λ i low. refl;
}

pub joins_all : (locks : List Lock) (n : ℕ) (row left old new : List Part) → length locks ≤ n → JoinsFirst locks n row left old new
    → JoinsAll locks row old new
joins_all locks n row left old new end f =
    let all = first_all locks (λ i k x z. (y : Part) → slice_get row i ≡ Some y → Joins k x.pass y.pass z.pass) n old new end f.step in
    record { count = all.count; each = λ i l p q r at was from later. all.each i l p r at was later q from }

-- what a part knows of the actors

among_back : {X : Type 0} (xs ys : List X) (x : X) → IsAmong x ys → IsAmong x (xs ++ ys)
among_back [] ys x there = there
among_back (y ∷ xs) ys x there = inr (among_back xs ys x there)

pub knows_one : (a : Actor) (i : ℕ) (l : Lock) (p : Part) → slice_get a.parts.items i ≡ Some p → SitsAt l a.number p → Knows (a ∷ []) i l p
knows_one a i l p here sits = record {
  there = (sits.0, (sits.1, sits.2.of));
  holds = λ b m. elim m [
    | inl e ↦ subst (λ (z : Actor). IsAmong z.number (numbers sits.0)) e (subst (IsAmong a.number) (sym sits.2.number) (inl refl))
    | inr none ↦ absurd none
  ];
  begins = λ b q m at. elim m [
    | inl e ↦ subst (λ (z : Part). BeginsWith (log p) (log z)) (same b q e at) (begins_same (log p))
    | inr none ↦ absurd none
  ];
  own = λ b q m at. elim m [
    | inl e ↦ subst (λ (z : Part). entries_of number_of b.number (log p) ≡ entries_of number_of b.number (log z)) (same b q e at) refl
    | inr none ↦ absurd none
  ];
} where
  same : (b : Actor) (q : Part) → a ≡ b → slice_get b.parts.items i ≡ Some q → p ≡ q
  same b q e at = same_Some p q (sym here ∙ (ap (λ (z : Actor). slice_get z.parts.items i) e ∙ at))

module _ (done : List Actor) (b : Actor) (i : ℕ) (l : Lock) (p q r : Part) (here : slice_get b.parts.items i ≡ Some q)
    (sits : SitsAt l b.number q) (k : Knows done i l p) (j : Joins l p.pass q.pass r.pass) where
  log_r : log r ≡ seen j.both
  log_r = ap log_in j.whole_is.0

  log_p : log p ≡ seen j.one
  log_p = ap log_in j.first_is

  log_q : log q ≡ seen j.two
  log_q = ap log_in j.second_is

  one_has : (a : Actor) → IsAmong a done → IsAmong a.number (numbers j.one)
  one_has a m = subst (λ x. IsAmong a.number (numbers x)) (same_Some k.there.0 j.one (sym k.there.1.0 ∙ j.first_is)) (k.holds a m)

  two_has : IsAmong b.number (numbers j.two)
  two_has = subst (λ x. IsAmong b.number (numbers x)) (same_Some sits.0 j.two (sym sits.1 ∙ j.second_is))
      (subst (IsAmong b.number) (sym sits.2.number) (inl refl))

  from_p : BeginsWith (log r) (log p)
  from_p = subst (BeginsWith (log r)) (sym log_p) (subst (λ (es : List Entry). BeginsWith es (seen j.one)) (sym log_r) j.begins.0)

  from_q : BeginsWith (log r) (log q)
  from_q = subst (BeginsWith (log r)) (sym log_q) (subst (λ (es : List Entry). BeginsWith es (seen j.two)) (sym log_r) j.begins.1)

  same_q : (a : Actor) (x : Part) → b ≡ a → slice_get a.parts.items i ≡ Some x → q ≡ x
  same_q a x e at = same_Some q x (sym here ∙ (ap (λ (z : Actor). slice_get z.parts.items i) e ∙ at))

  own_p : (n : ℕ) → IsAmong n (numbers j.one) → entries_of number_of n (log r) ≡ entries_of number_of n (log p)
  own_p n m = ap (entries_of number_of n) log_r ∙ (j.own.0 n m ∙ ap (entries_of number_of n) (sym log_p))

  own_q : entries_of number_of b.number (log r) ≡ entries_of number_of b.number (log q)
  own_q = ap (entries_of number_of b.number) log_r ∙ (j.own.1 b.number two_has ∙ ap (entries_of number_of b.number) (sym log_q))

  pub knows_more : Knows (b ∷ done) i l r
  knows_more = record {
    there = (j.both, j.whole_is);
    holds = λ a m. subst (IsAmong a.number) (sym j.counted) (elim m [
      | inl e ↦ among_back (numbers j.one) (numbers j.two) a.number (subst (λ (z : Actor). IsAmong z.number (numbers j.two)) e two_has)
      | inr more ↦ among_front (numbers j.one) (numbers j.two) a.number (one_has a more)
    ]);
    begins = λ a x m at. elim m [
      | inl e ↦ subst (λ (z : Part). BeginsWith (log r) (log z)) (same_q a x e at) from_q
      | inr more ↦ begins_then (log x) (log p) (log r) (k.begins a x more at) from_p
    ];
    own = λ a x m at. elim m [
      | inl e ↦ subst (λ (n : ℕ). entries_of number_of n (log r) ≡ entries_of number_of n (log x)) (ap (λ (z : Actor). z.number) e)
          (subst (λ (z : Part). entries_of number_of b.number (log r) ≡ entries_of number_of b.number (log z)) (same_q a x e at) own_q)
      | inr more ↦ own_p a.number (one_has a more) ∙ k.own a x more at
    ];
  }

-- of all actors these are left, and the parts know the others
pub record Gathers (locks : List Lock) (all left : List Actor) (parts : List Part) : Type 0 where
  pub done : List Actor
  pub knows : EachPart locks (Knows done) parts
  pub split : (a : Actor) → IsAmong a all → IsAmong a left ⊎ IsAmong a done
  pub within : (a : Actor) → IsAmong a left → IsAmong a all

pub gathers_first : (locks : List Lock) (all left : List Actor) (a : Actor) → all ≡ left ++ a ∷ []
    → EachPart locks (λ _ l p. SitsAt l a.number p) a.parts.items → Gathers locks all left a.parts.items
gathers_first locks all left a is parts = record {
  done = a ∷ [];
  knows = record { count = parts.count; each = λ i l p at here. knows_one a i l p here (parts.each i l p at here) };
  split = λ x there. elim (among_last left a x (subst (IsAmong x) is there)) [ inl before ↦ inl before | inr e ↦ inr (inl e) ];
  within = λ x there. subst (IsAmong x) (sym is) (among_front left (a ∷ []) x there);
}

pub gathers_next : (locks : List Lock) (all left rest : List Actor) (a : Actor) (old new : List Part) → left ≡ rest ++ a ∷ []
    → EachPart locks (λ _ l p. SitsAt l a.number p) a.parts.items → JoinsAll locks a.parts.items old new
    → Gathers locks all left old → Gathers locks all rest new
gathers_next locks all left rest a old new is parts joins g = record {
  done = a ∷ g.done;
  knows = record {
    count = joins.count ∙ g.knows.count;
    each = λ i l r at later.
        let within : i < length new = slice_get_within new i r later in
        let count = joins.count in
        let known = g.knows.count in
        let own = parts.count in
        let was = slice_get-get_or old i r (omega (arith, within, count)) in
        let row = slice_get-get_or a.parts.items i r (omega (arith, within, count, known, own)) in
        knows_more g.done a i l _ _ r row (parts.each i l _ at row) (g.knows.each i l _ at was) (joins.each i l _ _ r at was row later);
  };
  split = λ x there. elim (g.split x there) [
    | inl before ↦ elim (among_last rest a x (subst (IsAmong x) is before)) [ inl still ↦ inl still | inr e ↦ inr (inl e) ]
    | inr known ↦ inr (inr known)
  ];
  within = λ x there. g.within x (subst (IsAmong x) (sym is) (among_front rest (a ∷ []) x there));
}

pub gathers_all : (locks : List Lock) (all : List Actor) (parts : List Part) → Gathers locks all [] parts → EachPart locks (Knows all) parts
gathers_all locks all parts g = record {
  count = g.knows.count;
  each = λ i l p at here.
      let k = g.knows.each i l p at here in
      let in_done : (a : Actor) → IsAmong a all → IsAmong a g.done = λ a m. elim (g.split a m) [ inl none ↦ absurd none | inr known ↦ known ] in
      record {
        there = k.there;
        holds = λ a m. k.holds a (in_done a m);
        begins = λ a q m. k.begins a q (in_done a m);
        own = λ a q m. k.own a q (in_done a m);
      };
}

-- a part that knows all actors has all numbers
pub knows_whole : (locks : List Lock) (actors : ℕ) (all : List Actor) (parts : List Part) → HavePasses locks actors
    → ((k : ℕ) → 0 < k → k ≤ actors → (a : Actor) × IsAmong a all × (a.number ≡ k))
    → EachPart locks (Knows all) parts → EachPart locks (λ _ l p. IsWhole l p) parts
knows_whole locks actors all parts have each knows = record {
  count = knows.count;
  each = λ i l p at here.
      let k = knows.each i l p at here in
      let count : pass_count l ≡ actors = have i l at in
      (k.there, λ n some low. let a = each n some (omega arith) in subst (λ (m : ℕ). IsAmong m (numbers k.there.0)) a.2 (k.holds a.0 a.1));
}

-- and the node that came out is as the closing wants it
pub ends_close : (locks : List Lock) (all : List Actor) (parts : List Part) (nodes : List Node) → EachPart locks (Knows all) parts
    → EndsAll locks parts nodes → ClosesNodes locks all nodes
ends_close locks all parts nodes knows ends = record {
  count = ends.count;
  each = λ i l n at there.
      let within : i < length locks = slice_get_within locks i l at in
      let count = knows.count in
      by i l n at there (slice_get parts i) refl (omega (arith, within, count));
} where
  by : (i : ℕ) (l : Lock) (n : Node) → slice_get locks i ≡ Some l → slice_get nodes i ≡ Some n → (o : Option Part) → slice_get parts i ≡ o
      → i < length parts → ClosesNode all i l n
  by i l n at there None none low = absurd (none_within parts i none low)
  by i l n at there (Some p) here low =
      let k = knows.each i l p at here in
      let e = ends.each i l p n at here there in
      record { whole = log p; stands = e.stands; first = e.first; begins = λ a q m. k.begins a q m; own = λ a q m. k.own a q m }

-- nodes taken out one after another

pub at_middle : {X : Type 0} (xs ys : List X) (x : X) → slice_get (xs ++ x ∷ ys) (length xs) ≡ Some x
at_middle [] ys x = refl
at_middle (z ∷ xs) ys x = at_middle xs ys x

pub ends_none : (locks : List Lock) (parts : List Part) (nodes : List Node) → locks ≡ [] → nodes ≡ [] → EndsAll locks parts nodes
ends_none locks parts nodes no_lock no_node = record {
  count = ap (length {A = Node}) no_node ∙ sym (ap (length {A = Lock}) no_lock);
  each = λ i l p n at here there. absurd (none-some l (sym (ap (λ (ls : List Lock). slice_get ls i) no_lock) ∙ at));
}

pub ends_more : (locks : List Lock) (parts : List Part) (nodes : List Node) (l : Lock) (p : Part) (n : Node)
    → slice_get parts (length locks) ≡ Some p → Ends l p n → EndsAll locks parts nodes → EndsAll (locks ++ l ∷ []) parts (nodes ++ n ∷ [])
ends_more locks parts nodes l p n here ends all = record {
  count = length-append nodes (n ∷ []) ∙ (ap (λ (k : ℕ). k + 1) all.count ∙ sym (length-append locks (l ∷ [])));
  each = λ i k q m at from there. elim (at_pushed locks l i k at) [
    | inl before ↦ elim (at_pushed nodes n i m there) [
      | inl old ↦ all.each i k q m before from old
      | inr last ↦
          let low : i < length locks = slice_get_within locks i k before in
          let e : i ≡ length nodes = last.0 in
          let count = all.count in
          absurd (omega (arith, low, e, count))
    ]
    | inr last ↦ elim (at_pushed nodes n i m there) [
      | inl old ↦
          let low : i < length nodes = slice_get_within nodes i m old in
          let e : i ≡ length locks = last.0 in
          let count = all.count in
          absurd (omega (arith, low, e, count))
      | inr new ↦
          let part_is : p ≡ q = same_Some p q (sym here ∙ (ap (slice_get parts) (sym last.0) ∙ from)) in
          subst (λ (z : Lock). Ends z q m) (sym last.1) (subst (λ (z : Part). Ends l z m) part_is (subst (λ (z : Node). Ends l p z) (sym new.1) ends))
    ]
  ];
}
