-- One step of a walk that frees what is left of a tree.
use Rattle.std.proofs.Common.{◌≡◌, ◌⊎◌, inl, inr, ℕ, zero, suc, ◌+◌, ◌-◌, ◌<◌, ◌^◌, ◌%◌, Bool, true, List, [], ◌∷◌, ◌++◌, length, Option, Some, None, Result, Err, refl, sym, ap, subst, ◌∙◌, arith}
use Rattle.std.specs.List.{AllByRecursion}
use Rattle.std.proofs.lemmas.List.{length-append}
use Rattle.a1_base.specs.Lists.{IsAmong}
use Rattle.a1_base.specs.declared.place.Addr.{Addr}
use Rattle.object_view.specs.Agreement.{State}
use Rattle.object_view.specs.declared.parts.PartFault.{PartFault}
use Rattle.object_view.specs.declared.parts.PartFault.TheVariants as part
use Rattle.object_view.specs.Layout.{Entry, IsEntry, entries, entry_at, head_at, addr_of, node_bytes}
use Rattle.object_view.specs.Parts.{LookTells, with_bytes, Tells}
use Rattle.object_view.specs.Trees.{Distinct}
use Rattle.object_btree.specs.Remains.{Lost, Each, Standing, Remains, Empties, LeftBelow, LessBy, SeekTells}
use Rattle.object_view.proofs.Layouts.{Left, some_left, some_is, head_of_object}
use Rattle.object_view.proofs.Standing.{in_left, in_right, in_or, node_kept, Parts, distinct_parts, distinct_join}
use Rattle.object_view.proofs.Views.{place_or, unlike, here_now, beside, some_not_none, tells_map}
use Rattle.object_btree.proofs.Grows.{moved}
use Rattle.object_btree.proofs.Remaining.{each_kept, lost_kept, remains_kept}

-- something stands at a look
pub look_full : {A : Type 0} (at : Addr) (e : PartFault) (r : Bool) (o : Option (List ℕ)) (P : A → Type 0)
    → LookTells at r o (Err e) → r ≡ true → (o ≡ None → ⊥) → Tells {A = A} (Err e) P
look_full at part.Memory r o P l served full = tt
look_full at (part.Spent n) r o P l served full = absurd l
look_full at (part.Torn a) r o P l served full = absurd (full (l.1 served))
look_full at part.Tall r o P l served full = absurd l

pub among_or : (b : Addr) (xs : List Addr) → IsAmong b xs ⊎ (IsAmong b xs → ⊥)
among_or b [] = inr (λ i. i)
among_or b (x ∷ xs) = elim (place_or x b) [
  | inl e ↦ inl (inl e)
  | inr f ↦ elim (among_or b xs) [
    | inl i ↦ inl (inr i)
    | inr n ↦ inr (λ i. elim i [ inl e ↦ unlike x b f e | inr j ↦ n j ])
  ]
]

-- ---- what is left below one entry

pub record Kept (R : Addr → Bool) (s : State) (owner below word : ℕ) (here : List Addr) : Type 0 where
  pub es : List Entry
  pub under : List Addr
  pub node : Standing R s owner (addr_of word) es
  pub here_is : here ≡ addr_of word ∷ under
  pub left : LeftBelow R s owner below es under

abbrev pub Part : (Addr → Bool) → State → ℕ → ℕ → ℕ → List Addr → Type 0
Part R s owner below word here = ((here ≡ []) × Lost R s owner (addr_of word)) ⊎ Kept R s owner below word here

part_of : (R : Addr → Bool) (s : State) (owner d word : ℕ) (ps : List Addr) → Remains R s owner d word ps
    → Part R s owner d word ps
part_of R s owner zero word ps (inl l) = inl l
part_of R s owner zero word ps (inr (es, node, are)) =
    inr (record { es = es; under = []; node = node; here_is = are; left = refl })
part_of R s owner (suc d) word ps (inl l) = inl l
part_of R s owner (suc d) word ps (inr (es, below, node, are, each)) =
    inr (record { es = es; under = below; node = node; here_is = are; left = each })

remains_lost : (R : Addr → Bool) (t : State) (owner d word : ℕ) → Lost R t owner (addr_of word)
    → Remains R t owner d word []
remains_lost R t owner zero word l = inl (refl, l)
remains_lost R t owner (suc d) word l = inl (refl, l)

remains_node : (R : Addr → Bool) (t : State) (owner d word : ℕ) (es : List Entry) (left : List Addr)
    → Standing R t owner (addr_of word) es → LeftBelow R t owner d es left
    → Remains R t owner d word (addr_of word ∷ left)
remains_node R t owner zero word es left n l = inr (es, n, ap (λ (x : List Addr). addr_of word ∷ x) l)
remains_node R t owner (suc d) word es left n l = inr (es, left, n, refl, l)

part_reached : (R : Addr → Bool) (s : State) (owner d word : ℕ) (here : List Addr) → Part R s owner d word here
    → R (addr_of word) ≡ true
part_reached R s owner d word here (inl l) = l.1.reached
part_reached R s owner d word here (inr k) = k.node.reached

-- ---- the first entry of a node, and the others

pub record DropStep (R : Addr → Bool) (s : State) (owner levels below : ℕ) (es : List Entry) (ps : List Addr)
    (word : ℕ) (after : List ℕ) : Type 0 where
  pub more : List Entry
  pub fits : AllByRecursion IsEntry more
  pub spelled : after ≡ entries more
  pub here : List Addr
  pub there : List Addr
  pub places_are : ps ≡ here ++ there
  pub part : Part R s owner below word here
  pub reached : R (addr_of word) ≡ true
  pub rest : LeftBelow R s owner levels more there
  pub keep : (t : State) → Empties s t → ((a : Addr) → IsAmong a there → t a ≡ s a)
      → LeftBelow R t owner levels more there
  pub up_lost : (t : State) (left : List Addr) → Lost R t owner (addr_of word) → LeftBelow R t owner levels more left
      → LeftBelow R t owner levels es left
  pub up_node : (t : State) (ces : List Entry) (under left : List Addr) → Standing R t owner (addr_of word) ces
      → LeftBelow R t owner below ces under → LeftBelow R t owner levels more left
      → LeftBelow R t owner levels es ((addr_of word ∷ under) ++ left)

step_suc : (R : Addr → Bool) (s : State) (owner d : ℕ) (es : List Entry) (ps : List Addr) (body : List ℕ) (e : Entry)
    (after : List ℕ) → AllByRecursion IsEntry es → body ≡ entries es → 0 < length body
    → entry_at body ≡ Some (e, after) → Each (Remains R s owner d) es ps
    → DropStep R s owner (suc d) d es ps e.word after
step_suc R s owner d es ps body e after fits eq long some each =
    let l : Left es e after = some_left body es e after fits eq long some in
    let f : Each (Remains R s owner d) (e ∷ l.more) ps =
    subst (λ (x : List Entry). Each (Remains R s owner d) x ps) l.are each in
    let p : Part R s owner d e.word f.0 = part_of R s owner d e.word f.0 f.3 in
    record {
      more = l.more;
      fits = l.fit;
      spelled = l.spelled;
      here = f.0;
      there = f.1;
      places_are = f.2;
      part = p;
      reached = part_reached R s owner d e.word f.0 p;
      rest = f.4;
      keep = λ t empties same. each_kept (Remains R s owner d) (Remains R t owner d) l.more f.1
          (λ w qs q inc. remains_kept R s t owner d w qs empties (λ a i. same a (inc a i)) q) f.4;
      up_lost = λ t left lost r. subst (λ (x : List Entry). Each (Remains R t owner d) x left) (sym l.are)
          ([], left, refl, remains_lost R t owner d e.word lost, r);
      up_node = λ t ces under left n u r.
          subst (λ (x : List Entry). Each (Remains R t owner d) x ((addr_of e.word ∷ under) ++ left)) (sym l.are)
          (addr_of e.word ∷ under, left, refl, remains_node R t owner d e.word ces under n u, r);
    }

pub drop_step : (R : Addr → Bool) (s : State) (owner levels : ℕ) (es : List Entry) (ps : List Addr) (body : List ℕ)
    (key : List ℕ) (word : ℕ) (after : List ℕ) → (levels ≡ 0 → ⊥) → AllByRecursion IsEntry es → body ≡ entries es
    → 0 < length body → entry_at body ≡ Some (record { key = key; word = word }, after)
    → LeftBelow R s owner levels es ps → DropStep R s owner levels (levels - 1) es ps word after
drop_step R s owner zero es ps body key word after nz fits eq long some left = absurd (nz refl)
drop_step R s owner (suc d) es ps body key word after nz fits eq long some left =
    let e : d ≡ suc d - 1 = omega arith in
    subst (λ (n : ℕ). DropStep R s owner (suc d) n es ps word after) e
    (step_suc R s owner d es ps body (record { key = key; word = word }) after fits eq long some left)

-- nothing to walk, or no leave to free
pub none_less : (R : Addr → Bool) (s : State) (owner levels limit : ℕ) (es : List Entry) (ps : List Addr)
    → (0 < limit → ps ≡ []) → LeftBelow R s owner levels es ps → Distinct ps
    → LessBy R s s owner levels es ps limit 0
none_less R s owner levels limit es ps none left distinct = record {
  left = ps;
  remains = left;
  distinct = distinct;
  count = omega arith;
  all = none;
  within = λ a i. i;
  kept = λ a i. refl;
  gone = λ a i n. absurd (n i);
  frame = λ a n. refl;
}

pub no_left : (R : Addr → Bool) (s : State) (owner levels : ℕ) (es : List Entry) (ps : List Addr) → es ≡ []
    → LeftBelow R s owner levels es ps → ps ≡ []
no_left R s owner zero es ps none left = left
no_left R s owner (suc d) [] ps none left = left
no_left R s owner (suc d) (e ∷ es) ps none left = absurd cc

-- ---- the places of a step

module _ (R : Addr → Bool) (s : State) (owner levels below : ℕ) (es : List Entry) (ps : List Addr) (word : ℕ)
    (after : List ℕ) (d : DropStep R s owner levels below es ps word after) (distinct : Distinct ps) where
  both : Distinct (d.here ++ d.there)
  both = subst (λ (x : List Addr). Distinct x) d.places_are distinct

  pub there_distinct : Distinct d.there
  there_distinct = (distinct_parts d.here d.there both).right

  pub under_distinct : (k : Kept R s owner below word d.here) → Distinct k.under
  under_distinct k =
      let p : Distinct d.here = (distinct_parts d.here d.there both).left in
      let q : Distinct (addr_of word ∷ k.under) = subst (λ (x : List Addr). Distinct x) k.here_is p in
      q.1

emptied : (R : Addr → Bool) (s t : State) (owner levels : ℕ) (es : List Entry) (ps : List Addr) (limit freed : ℕ)
    → LessBy R s t owner levels es ps limit freed → Empties s t
emptied R s t owner levels es ps limit freed l a = elim (among_or a ps) [
  | inl i ↦ elim (among_or a l.left) [ inl j ↦ inl (l.kept a j) | inr n ↦ inr (l.gone a i n) ]
  | inr o ↦ inl (l.frame a o)
]

-- ---- a place that was freed before

pub gone_before : (R : Addr → Bool) (s : State) (owner below word : ℕ) (here : List Addr) → owner < 2 ^ 64
    → ((b rest : List ℕ) → s (addr_of word) ≡ Some b → head_at 3 b ≡ Some (owner, rest) → ⊥)
    → Part R s owner below word here → (here ≡ []) × Lost R s owner (addr_of word)
gone_before R s owner below word here lt other (inl l) = l
gone_before R s owner below word here lt other (inr k) =
    absurd (other (node_bytes owner k.es) (entries k.es) k.node.bytes
    (head_of_object 3 owner (entries k.es) (node_bytes owner k.es) lt refl))

pub skip_less : (R : Addr → Bool) (s t : State) (owner levels below : ℕ) (es : List Entry) (ps : List Addr)
    (word : ℕ) (after : List ℕ) (limit freed : ℕ) (d : DropStep R s owner levels below es ps word after)
    → (d.here ≡ []) × Lost R s owner (addr_of word) → LessBy R s t owner levels d.more d.there limit freed
    → LessBy R s t owner levels es ps limit freed
skip_less R s t owner levels below es ps word after limit freed d gone r =
    let same : ps ≡ d.there = d.places_are ∙ ap (λ (x : List Addr). x ++ d.there) gone.0 in
    record {
      left = r.left;
      remains = d.up_lost t r.left
          (lost_kept R s t owner (addr_of word) (emptied R s t owner levels d.more d.there limit freed r) gone.1)
          r.remains;
      distinct = r.distinct;
      count = ap length same ∙ r.count;
      all = r.all;
      within = λ a i. moved a d.there ps (sym same) (r.within a i);
      kept = r.kept;
      gone = λ a i n. r.gone a (moved a ps d.there same i) n;
      frame = λ a n. r.frame a (λ i. n (moved a d.there ps (sym same) i));
    }

-- ---- a node that still stands

pub stop_less : (R : Addr → Bool) (s t : State) (owner levels below : ℕ) (es : List Entry) (ps : List Addr)
    (word : ℕ) (after : List ℕ) (limit freed : ℕ) (d : DropStep R s owner levels below es ps word after)
    (k : Kept R s owner below word d.here) → Distinct ps → freed ≡ limit
    → LessBy R s t owner below k.es k.under limit freed → LessBy R s t owner levels es ps limit freed
stop_less R s t owner levels below es ps word after limit freed d k distinct end m =
    let at : Addr = addr_of word in
    let same : ps ≡ (at ∷ k.under) ++ d.there = d.places_are ∙ ap (λ (x : List Addr). x ++ d.there) k.here_is in
    let p : Parts (at ∷ k.under) d.there =
    distinct_parts (at ∷ k.under) d.there (subst (λ (x : List Addr). Distinct x) same distinct) in
    let here : t at ≡ s at = m.frame at p.left.0 in
    let there : (a : Addr) → IsAmong a d.there → t a ≡ s a = λ a j. m.frame a (λ i. p.apart a (inr i) j) in
    let inside : (a : Addr) → IsAmong a (at ∷ m.left) → IsAmong a (at ∷ k.under) =
    λ a i. elim i [ inl e ↦ inl e | inr j ↦ inr (m.within a j) ] in
    let one : length ((at ∷ k.under) ++ d.there) ≡ length (at ∷ k.under) + length d.there =
    length-append (at ∷ k.under) d.there in
    let two : length ((at ∷ m.left) ++ d.there) ≡ length (at ∷ m.left) + length d.there =
    length-append (at ∷ m.left) d.there in
    let three : length ps ≡ length ((at ∷ k.under) ++ d.there) = ap length same in
    let four : length k.under ≡ length m.left + freed = m.count in
    record {
      left = (at ∷ m.left) ++ d.there;
      remains = d.up_node t k.es m.left d.there (node_kept R s t owner 0 at k.es k.node here) m.remains
          (d.keep t (emptied R s t owner below k.es k.under limit freed m) there);
      distinct = distinct_join (at ∷ m.left) d.there ((λ i. p.left.0 (m.within at i)), m.distinct) p.right
          (λ a i j. p.apart a (inside a i) j);
      count = omega (arith, one, two, three, four);
      all = λ lt. absurd (omega (arith, lt, end));
      within = λ a i. moved a _ ps (sym same) (elim (in_or a (at ∷ m.left) d.there i) [
        | inl j ↦ in_left a (at ∷ k.under) d.there (inside a j)
        | inr j ↦ in_right a (at ∷ k.under) d.there j
      ]);
      kept = λ a i. elim (in_or a (at ∷ m.left) d.there i) [
        | inl j ↦ elim j [ inl e ↦ ap t (sym e) ∙ here ∙ ap s e | inr q ↦ m.kept a q ]
        | inr j ↦ there a j
      ];
      gone = λ a i n. elim (in_or a (at ∷ k.under) d.there (moved a ps _ same i)) [
        | inl j ↦ elim j [
          | inl e ↦ absurd (n (in_left a (at ∷ m.left) d.there (inl e)))
          | inr q ↦ m.gone a q (λ x. n (in_left a (at ∷ m.left) d.there (inr x)))
        ]
        | inr j ↦ absurd (n (in_right a (at ∷ m.left) d.there j))
      ];
      frame = λ a n. m.frame a (λ i. n (moved a _ ps (sym same) (in_left a (at ∷ k.under) d.there (inr i))));
    }

-- a node and all below it were freed
pub record Gone (s t : State) (at : Addr) (under : List Addr) : Type 0 where
  pub none : (a : Addr) → IsAmong a (at ∷ under) → t a ≡ None
  pub frame : (a : Addr) → (IsAmong a (at ∷ under) → ⊥) → t a ≡ s a

pub all_gone : (R : Addr → Bool) (s t u : State) (owner below : ℕ) (es : List Entry) (at : Addr) (under : List Addr)
    (limit freed : ℕ) → LessBy R s t owner below es under limit freed → freed < limit → u ≡ with_bytes at None t
    → Gone s u at under
all_gone R s t u owner below es at under limit freed m lt e =
    let here : u at ≡ None = here_now t u at None e in
    record {
      none = λ a i. elim (place_or a at) [
        | inl q ↦ ap u q ∙ here
        | inr f ↦ elim i [
          | inl q ↦ absurd (unlike a at f (sym q))
          | inr j ↦ beside t u at None e a (unlike a at f)
              ∙ m.gone a j (λ x. subst (λ (l : List Addr). IsAmong a l) (m.all lt) x)
        ]
      ];
      frame = λ a n. beside t u at None e a (λ q. n (inl (sym q))) ∙ m.frame a (λ i. n (inr i));
    }

gone_empties : (s t : State) (at : Addr) (under : List Addr) → Gone s t at under → Empties s t
gone_empties s t at under g a = elim (among_or a (at ∷ under)) [ inl i ↦ inr (g.none a i) | inr n ↦ inl (g.frame a n) ]

-- what is left below the other entries then
pub rest_left : (R : Addr → Bool) (s u : State) (owner levels below : ℕ) (es : List Entry) (ps : List Addr)
    (word : ℕ) (after : List ℕ) (d : DropStep R s owner levels below es ps word after)
    (k : Kept R s owner below word d.here) → Distinct ps → Gone s u (addr_of word) k.under
    → LeftBelow R u owner levels d.more d.there
rest_left R s u owner levels below es ps word after d k distinct g =
    let at : Addr = addr_of word in
    let same : ps ≡ (at ∷ k.under) ++ d.there = d.places_are ∙ ap (λ (x : List Addr). x ++ d.there) k.here_is in
    let p : Parts (at ∷ k.under) d.there =
    distinct_parts (at ∷ k.under) d.there (subst (λ (x : List Addr). Distinct x) same distinct) in
    d.keep u (gone_empties s u at k.under g) (λ a j. g.frame a (λ i. p.apart a i j))

pub go_less : (R : Addr → Bool) (s u t : State) (owner levels below : ℕ) (es : List Entry) (ps : List Addr)
    (word : ℕ) (after : List ℕ) (limit freed more : ℕ) (d : DropStep R s owner levels below es ps word after)
    (k : Kept R s owner below word d.here) → Distinct ps → Gone s u (addr_of word) k.under → freed < limit
    → length k.under ≡ freed → LessBy R u t owner levels d.more d.there ((limit - freed) - 1) more
    → LessBy R s t owner levels es ps limit ((freed + 1) + more)
go_less R s u t owner levels below es ps word after limit freed more d k distinct g lt len r =
    let at : Addr = addr_of word in
    let same : ps ≡ (at ∷ k.under) ++ d.there = d.places_are ∙ ap (λ (x : List Addr). x ++ d.there) k.here_is in
    let p : Parts (at ∷ k.under) d.there =
    distinct_parts (at ∷ k.under) d.there (subst (λ (x : List Addr). Distinct x) same distinct) in
    let away : (a : Addr) → IsAmong a (at ∷ k.under) → t a ≡ None =
    λ a i. r.frame a (λ j. p.apart a i j) ∙ g.none a i in
    let one : length ((at ∷ k.under) ++ d.there) ≡ length (at ∷ k.under) + length d.there =
    length-append (at ∷ k.under) d.there in
    let three : length ps ≡ length ((at ∷ k.under) ++ d.there) = ap length same in
    let four : length d.there ≡ length r.left + more = r.count in
    record {
      left = r.left;
      remains = d.up_lost t r.left (record {
        reached = d.reached;
        other = λ b rest h q. some_not_none (t at) b h (away at (inl refl));
      }) r.remains;
      distinct = r.distinct;
      count = omega (arith, one, three, four, len);
      all = λ few. r.all (omega (arith, few, lt));
      within = λ a i. moved a _ ps (sym same) (in_right a (at ∷ k.under) d.there (r.within a i));
      kept = λ a i. r.kept a i ∙ g.frame a (λ j. p.apart a j (r.within a i));
      gone = λ a i n. elim (in_or a (at ∷ k.under) d.there (moved a ps _ same i)) [
        | inl j ↦ away a j
        | inr j ↦ r.gone a j n
      ];
      frame = λ a n.
          r.frame a (λ j. n (moved a _ ps (sym same) (in_right a (at ∷ k.under) d.there j)))
          ∙ g.frame a (λ i. n (moved a _ ps (sym same) (in_left a (at ∷ k.under) d.there i)));
    }

-- ---- the same call at equal views

abbrev pub DropTells : (Addr → Bool) → State → State → ℕ → ℕ → List ℕ → ℕ → Result ℕ PartFault → Type 0
DropTells R s t owner levels body limit result =
    (es : List Entry) (ps : List Addr) → AllByRecursion IsEntry es → body ≡ entries es
    → LeftBelow R s owner levels es ps → Distinct ps
    → Tells result (λ freed. LessBy R s t owner levels es ps limit freed)

pub drop_as : (R R1 : Addr → Bool) (s s1 t : State) (owner levels : ℕ) (body : List ℕ) (limit : ℕ)
    (result : Result ℕ PartFault) → R1 ≡ R → s1 ≡ s → DropTells R1 s1 t owner levels body limit result
    → DropTells R s t owner levels body limit result
drop_as R R1 s s1 t owner levels body limit result er es f =
    subst (λ (x : State). DropTells R x t owner levels body limit result) es
    (subst (λ (r : Addr → Bool). DropTells r s1 t owner levels body limit result) er f)

pub skip_tells : (R : Addr → Bool) (s t : State) (owner levels below : ℕ) (es : List Entry) (ps : List Addr)
    (word : ℕ) (after : List ℕ) (limit : ℕ) (result : Result ℕ PartFault)
    (d : DropStep R s owner levels below es ps word after) → Distinct ps → owner < 2 ^ 64
    → ((b rest : List ℕ) → s (addr_of word) ≡ Some b → head_at 3 b ≡ Some (owner, rest) → ⊥)
    → DropTells R s t owner levels after limit result
    → Tells result (λ freed. LessBy R s t owner levels es ps limit freed)
skip_tells R s t owner levels below es ps word after limit result d distinct lt other f =
    tells_map result (λ freed. LessBy R s t owner levels d.more d.there limit freed)
    (λ freed. LessBy R s t owner levels es ps limit freed)
    (λ freed m. skip_less R s t owner levels below es ps word after limit freed d
    (gone_before R s owner below word d.here lt other d.part) m)
    (f d.more d.there d.fits d.spelled d.rest (there_distinct R s owner levels below es ps word after d distinct))

-- ---- the node that was found there

pub record Found (R : Addr → Bool) (s : State) (owner below word : ℕ) (here : List Addr) (body : List ℕ)
    : Type 0 where
  pub kept : Kept R s owner below word here
  pub body_is : body ≡ entries kept.es

found_node : (R : Addr → Bool) (s : State) (owner below word : ℕ) (here : List Addr) (b body : List ℕ)
    → owner < 2 ^ 64 → s (addr_of word) ≡ Some b → head_at 3 b ≡ Some (owner, body)
    → Kept R s owner below word here → Found R s owner below word here body
found_node R s owner below word here b body lt at head k =
    let same : b ≡ node_bytes owner k.es = some_is _ _ (sym at ∙ k.node.bytes) in
    let pair : ◌≡◌ {A = ℕ × List ℕ} (owner, body) (owner, entries k.es) =
    some_is _ _ (sym head ∙ head_of_object 3 owner (entries k.es) b lt same) in
    record { kept = k; body_is = ap (λ (p : ℕ × List ℕ). p.1) pair }

pub found : (R : Addr → Bool) (s : State) (owner below word : ℕ) (here : List Addr) (b body : List ℕ)
    → owner < 2 ^ 64 → s (addr_of word) ≡ Some b → head_at 3 b ≡ Some (owner, body)
    → Part R s owner below word here → Found R s owner below word here body
found R s owner below word here b body lt at head (inl l) = absurd (l.1.other b body at head)
found R s owner below word here b body lt at head (inr k) =
    found_node R s owner below word here b body lt at head k

-- what is below it was freed: it stands as before
pub still_full : (R : Addr → Bool) (s t : State) (owner levels below : ℕ) (es : List Entry) (ps : List Addr)
    (word : ℕ) (after : List ℕ) (limit freed : ℕ) (d : DropStep R s owner levels below es ps word after)
    (k : Kept R s owner below word d.here) → Distinct ps → LessBy R s t owner below k.es k.under limit freed
    → t (addr_of word) ≡ None → ⊥
still_full R s t owner levels below es ps word after limit freed d k distinct m none =
    let same : ps ≡ (addr_of word ∷ k.under) ++ d.there =
    d.places_are ∙ ap (λ (x : List Addr). x ++ d.there) k.here_is in
    let p : Parts (addr_of word ∷ k.under) d.there =
    distinct_parts (addr_of word ∷ k.under) d.there (subst (λ (x : List Addr). Distinct x) same distinct) in
    some_not_none (s (addr_of word)) (node_bytes owner k.es) k.node.bytes (sym (m.frame (addr_of word) p.left.0) ∙ none)

pub served_later : (reach later : ℕ → Bool) (nodes more : ℕ) (at : Addr) → later ≡ reach → more ≡ nodes
    → reach (at.region % nodes) ≡ true → later (at.region % more) ≡ true
served_later reach later nodes more at e f p =
    ap (λ (r : ℕ → Bool). r (at.region % more)) e ∙ ap (λ (n : ℕ). reach (at.region % n)) f ∙ p

pub seek_err : {A : Type 0} (e : PartFault) (here : Option (List ℕ)) (P : A → Type 0) → SeekTells (Err e) here
    → Tells {A = A} (Err e) P
seek_err part.Memory here P l = tt
seek_err (part.Spent n) here P l = absurd l
seek_err (part.Torn a) here P l = absurd l
seek_err part.Tall here P l = absurd l
