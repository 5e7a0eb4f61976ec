-- A root with one child gives way to the child.
use Rattle.std.proofs.Common.{◌≡◌, inl, inr, ℕ, zero, suc, ◌≤◌, Bool, List, [], ◌∷◌, length, Some, None, refl, sym, ap, subst, ◌∙◌, arith}
use Rattle.std.specs.Prelude.{map}
use Rattle.std.specs.List.{AllByRecursion}
use Rattle.std.proofs.lemmas.List.{append-nil}
use Rattle.a1_base.specs.Lists.{IsAmong}
use Rattle.a1_base.specs.declared.place.Addr.{Addr}
use Rattle.object_view.specs.Agreement.{State}
use Rattle.object_view.specs.Layout.{Entry, IsEntry, addr_of, word_of}
use Rattle.object_view.specs.Keys.{Bound}
use Rattle.object_view.specs.Trees.{Branch, Item, spell, homes, Spans, Node, Ways, contents, places, Stand, Distinct, root_least, IsRooted}
use Rattle.object_btree.specs.Steps.{Shrunk, Lowered}
use Rattle.object_view.proofs.Standing.{stand_kept, node_kept}
use Rattle.object_btree.proofs.Grows.{moved}
use Rattle.object_view.proofs.Views.{place_or, unlike}

pub record LowerTree (R : Addr → Bool) (s t : State) (anchor : Addr) (own d : ℕ) (old : List Addr) (want : List Entry) :
    Type 0 where
  pub b : Branch (Item d)
  pub tree : IsRooted R t anchor own d b
  pub content : contents d b.items ≡ want
  pub within : (a : Addr) → IsAmong a (homes (suc d) b) → IsAmong a old
  pub frame : (a : Addr) → (a ≡ anchor → ⊥) → (IsAmong a old → ⊥) → t a ≡ s a
  pub gone : (a : Addr) → (a ≡ anchor → ⊥) → IsAmong a old → (IsAmong a (homes (suc d) b) → ⊥) → t a ≡ None

low_least : (d n : ℕ) → 16 ≤ n → root_least d ≤ n
low_least zero n h = omega arith
low_least (suc d) n h = omega (arith, h)

in_one : (d : ℕ) (a : Addr) (c : Branch (Item d)) → places (suc d) (c ∷ []) ≡ homes (suc d) c
in_one d a c = append-nil (homes (suc d) c)

gone_of : (u t : State) (a anchor root : Addr) (ps : List Addr) → (a ≡ anchor → ⊥) → t root ≡ None
    → ((x : Addr) → (x ≡ anchor → ⊥) → (x ≡ root → ⊥) → t x ≡ u x) → ((IsAmong a (root ∷ ps) → ⊥) → u a ≡ None)
    → (IsAmong a ps → ⊥) → t a ≡ None
gone_of u t a anchor root ps n1 gone frame u_none out = elim (place_or a root) [
  | inl e ↦ ap t e ∙ gone
  | inr f ↦ frame a n1 (unlike a root f) ∙ u_none (λ i. elim i [ inl e ↦ unlike a root f (sym e) | inr j ↦ out j ])
]

pub root_lower : (R : Addr → Bool) (s u t : State) (anchor : Addr) (own d : ℕ) (b : Branch (Branch (Item d)))
    (want : List Entry) (thin : Bool) (c : Branch (Item d)) → (tree : IsRooted R s anchor own (suc d) b)
    → (w : Shrunk R s u (word_of anchor) (root_least (suc d)) (suc d) (Some []) b None want thin) → w.items ≡ c ∷ []
    → Lowered u t anchor (addr_of b.word) own c.word d → LowerTree R s t anchor own d (homes (suc (suc d)) b) want
root_lower R s u t anchor own d b want thin c tree w one l =
    let ww : Ways (suc d) (Some []) (c ∷ []) None =
    subst (λ (x : List (Branch (Item d))). Ways (suc d) (Some []) x None) one w.ways in
    let sp : Spans (suc d) (Some []) c None = subst (λ (x : Bound). Spans (suc d) (Some []) c x) ww.2 ww.1 in
    let st = subst (λ (x : List (Branch (Item d))). Stand R u (word_of anchor) (suc d) x) one w.stand in
    let pl : places (suc d) w.items ≡ homes (suc d) c = ap (places (suc d)) one ∙ in_one d anchor c in
    let dist : Distinct (addr_of b.word ∷ homes (suc d) c) =
    subst (λ (x : List Addr). Distinct (addr_of b.word ∷ x)) pl w.distinct in
    let into : (a : Addr) → IsAmong a (homes (suc d) c) → IsAmong a (homes (suc (suc d)) b) =
    λ a i. inr (w.within a (moved a _ _ (sym pl) i)) in
    let out : IsAmong anchor (homes (suc d) c) → ⊥ = λ i. tree.apart (into anchor i) in
    let keep : (a : Addr) → IsAmong a (homes (suc d) c) → t a ≡ u a =
    λ a i. l.frame a (λ q. out (subst (λ (x : Addr). IsAmong x (homes (suc d) c)) q i))
    (λ q. dist.0 (subst (λ (x : Addr). IsAmong x (homes (suc d) c)) q i)) in
    let n : Node R u (word_of anchor) 16 (addr_of c.word) (map (spell d) c.items) = st.0.0 in
    let nt : Node R t (word_of anchor) 16 (addr_of c.word) (map (spell d) c.items) =
    node_kept R u t (word_of anchor) 16 (addr_of c.word) (map (spell d) c.items) n (keep (addr_of c.word) (inl refl))
    in
    let many = nt.many in
    let fits : AllByRecursion IsEntry (map (spell (suc d)) (c ∷ [])) =
    subst (λ (x : List (Branch (Item d))). AllByRecursion IsEntry (map (spell (suc d)) x)) one w.node.fits in
    let low = tree.low in
    record {
      b = c;
      tree = record {
        owner_fits = tree.owner_fits;
        root_fits = fits.0.word;
        low = omega (arith, low);
        reached = tree.reached;
        bytes = l.bytes;
        sub = record {
          spans = sp;
          node = record {
            reached = nt.reached;
            bytes = nt.bytes;
            fits = nt.fits;
            many =
                low_least d (length (map (spell d) c.items)) many;
            few = nt.few;
          };
          stand = stand_kept R u t (word_of anchor) d c.items st.0.1 (λ a i. keep a (inr i));
          distinct = dist.1;
        };
        apart = out;
      };
      content = sym (append-nil (contents d c.items)) ∙ ap (contents (suc d)) (sym one) ∙ w.content;
      within = into;
      frame = λ a n1 n2. l.frame a n1 (λ q. n2 (inl (sym q))) ∙ w.frame a n2;
      gone = λ a n1 i n2. elim i [
        | inl q ↦ ap t (sym q) ∙ l.gone
        | inr j ↦ gone_of u t a anchor (addr_of b.word) (places (suc d) w.items) n1 l.gone l.frame
            (λ m. w.gone a (inr j) m) (λ k. n2 (moved a _ _ pl k))
      ];
    }
