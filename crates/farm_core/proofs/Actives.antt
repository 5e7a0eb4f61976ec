-- What an open transaction stands for after a change.
use Rattle.std.proofs.Common.{◌≡◌, Bool, true, false, not, ◌&&◌, ◌||◌, List, [], ◌∷◌, ◌++◌, sym, refl, ap, ◌∙◌, ⊎_elim, inl, inr, ◌⊎◌, ℕ}
use Rattle.std.proofs.lemmas.Bool.{or_cases, or_left, or_right}
use Rattle.farm_core.proofs.Words.{Addr, same_addr, Phase, Active, ReadMarks, Stage, Transaction, in_stage, drawn_at, with_read, with_locked, with_same}
use Rattle.farm_core.proofs.Words.{with_addr, ReadSet, without_addr, reading, checked, read_set, stage_of, in_list, is_unchecked, StandsOpen}
use Rattle.farm_node.proofs.Addresses.{addr_eq, same_self}
use Rattle.farm_core.specs.declared.active.Phase.TheVariants as phase

pub in_front : (b a : Addr) (xs : List Addr) → in_list b xs ≡ true → in_list b (xs ++ a ∷ []) ≡ true
in_front b a [] there = absurd (cc)
in_front b a (x ∷ xs) there = ⊎_elim (λ here. or_left _ _ here) (λ more. or_right _ _ (in_front b a xs more)) (or_cases (same_addr b x) (in_list b xs) there)

pub is_last : (a : Addr) (xs : List Addr) → in_list a (xs ++ a ∷ []) ≡ true
is_last a [] = ap (λ (g : Bool). g || false) (same_self a)
is_last a (x ∷ xs) = or_right (same_addr a x) (in_list a (xs ++ a ∷ [])) (is_last a xs)

pub front_or_last : (b a : Addr) (xs : List Addr) → in_list b (xs ++ a ∷ []) ≡ true → (in_list b xs ≡ true) ⊎ (b ≡ a)
front_or_last b a [] there = ⊎_elim (λ same. inr (addr_eq b a same)) (λ none. absurd (cc)) (or_cases (same_addr b a) false there)
front_or_last b a (x ∷ xs) there = ⊎_elim
    (λ here. inl (or_left _ _ here))
    (λ more. ⊎_elim (λ front. inl (or_right _ _ front)) (λ last. inr last) (front_or_last b a xs more))
    (or_cases (same_addr b x) (in_list b (xs ++ a ∷ [])) there)

module _ (x : Active) (y : Transaction) (o : StandsOpen x y) where
  -- the same but for the phase, and for how the addresses are kept
  pub open_like : (z : Active) (stage : Stage) → stage_of z.phase ≡ stage → (z.read_stamp ≡ x.read_stamp) × (z.write_stamp ≡ x.write_stamp) → read_set z.reads ≡ read_set x.reads
      → ((a : Addr) → in_list a z.locked.items ≡ true → in_list a x.locked.items ≡ true) → StandsOpen z (in_stage stage y)
  open_like z stage is stamps reads fewer = record {
    is_open = o.is_open;
    stage = is;
    read_stamp = stamps.0 ∙ o.read_stamp;
    write_stamp = stamps.1 ∙ o.write_stamp;
    reads = ap (λ (r : ReadSet). r.read) reads ∙ o.reads;
    unchecked = ap (λ (r : ReadSet). r.unchecked) reads ∙ o.unchecked;
    locked = λ a there. o.locked a (fewer a there);
  }

  pub open_staged : (p : Phase) → StandsOpen (record x { phase = p }) (in_stage (stage_of p) y)
  open_staged p = open_like (record x { phase = p }) (stage_of p) refl (refl, refl) refl (λ a there. there)

  pub open_drawn : (w : ℕ) → StandsOpen (record x { phase = phase.Drawn; write_stamp = w }) (drawn_at w y)
  open_drawn w = record { is_open = o.is_open; stage = refl; read_stamp = o.read_stamp; write_stamp = refl; reads = o.reads; unchecked = o.unchecked; locked = o.locked }

  -- the same but for what was read and locked
  open_marks : (z : Active) (reads locks sames : Addr → Bool) → (z.phase ≡ x.phase) × (z.read_stamp ≡ x.read_stamp) × (z.write_stamp ≡ x.write_stamp) → (read_set z.reads).read ≡ reads
      → (read_set z.reads).unchecked ≡ is_unchecked (record y { has_read = reads; had_locked = locks; is_same = sames }) → ((b : Addr) → in_list b z.locked.items ≡ true → locks b ≡ true)
      → StandsOpen z (record y { has_read = reads; had_locked = locks; is_same = sames })
  open_marks z reads locks sames same read unchecked locked = record {
    is_open = o.is_open;
    stage = ap stage_of same.0 ∙ o.stage;
    read_stamp = same.1 ∙ o.read_stamp;
    write_stamp = same.2 ∙ o.write_stamp;
    reads = read;
    unchecked = unchecked;
    locked = locked;
  }

  module _ (a : Addr) where
    read_at : y.had_locked a ≡ false → y.is_same a ≡ false → (b : Addr) → with_addr a (is_unchecked y) b ≡ is_unchecked (with_read a y) b
    read_at free new b = by (same_addr a b) refl where
      by : (g : Bool) → same_addr a b ≡ g → (g || is_unchecked y b) ≡ ((g || y.has_read b) && not (y.had_locked b || y.is_same b))
      by true is =
          let unlocked : y.had_locked b ≡ false = ap y.had_locked (sym (addr_eq a b is)) ∙ free in
          let other : y.is_same b ≡ false = ap y.is_same (sym (addr_eq a b is)) ∙ new in
          sym (ap (λ (l : Bool). not (l || y.is_same b)) unlocked ∙ ap not other)
      by false is = refl

    pub open_read : (r : ReadMarks) → y.had_locked a ≡ false → y.is_same a ≡ false → read_set r ≡ reading a (read_set x.reads) → StandsOpen (record x { reads = r }) (with_read a y)
    open_read r free new is = open_marks (record x { reads = r }) (with_addr a y.has_read) y.had_locked y.is_same (refl, refl, refl) (ap (λ (z : ReadSet). z.read) is ∙ ap (with_addr a) o.reads)
        (ap (λ (z : ReadSet). z.unchecked) is ∙ (ap (with_addr a) o.unchecked ∙ (λ i b. read_at free new b i))) o.locked

    same_at : (b : Addr) → without_addr a (is_unchecked y) b ≡ is_unchecked (with_same a y) b
    same_at b = by (same_addr a b) (y.has_read b) (y.had_locked b) where
      by : (g r l : Bool) → (not g && (r && not (l || y.is_same b))) ≡ (r && not (l || (g || y.is_same b)))
      by true true true = refl
      by true true false = refl
      by true false l = refl
      by false r l = refl

    pub open_same : (r : ReadMarks) → read_set r ≡ checked a (read_set x.reads) → StandsOpen (record x { reads = r }) (with_same a y)
    open_same r is = open_marks (record x { reads = r }) y.has_read y.had_locked (with_addr a y.is_same) (refl, refl, refl) (ap (λ (z : ReadSet). z.read) is ∙ o.reads)
        (ap (λ (z : ReadSet). z.unchecked) is ∙ (ap (without_addr a) o.unchecked ∙ (λ i b. same_at b i))) o.locked

    locked_at : (b : Addr) → without_addr a (is_unchecked y) b ≡ is_unchecked (with_locked a y) b
    locked_at b = by (same_addr a b) (y.has_read b) where
      by : (g r : Bool) → (not g && (r && not (y.had_locked b || y.is_same b))) ≡ (r && not ((g || y.had_locked b) || y.is_same b))
      by true true = refl
      by true false = refl
      by false r = refl

    pub open_locked : (z : Active) → (z.phase ≡ x.phase) × (z.read_stamp ≡ x.read_stamp) × (z.write_stamp ≡ x.write_stamp) → read_set z.reads ≡ checked a (read_set x.reads)
        → z.locked.items ≡ x.locked.items ++ a ∷ [] → StandsOpen z (with_locked a y)
    open_locked z same is more = open_marks z y.has_read (with_addr a y.had_locked) y.is_same same (ap (λ (r : ReadSet). r.read) is ∙ o.reads)
        (ap (λ (r : ReadSet). r.unchecked) is ∙ (ap (without_addr a) o.unchecked ∙ (λ i b. locked_at b i)))
        (λ b there. ⊎_elim
        (λ front. or_right (same_addr a b) (y.had_locked b) (o.locked b front))
        (λ last. or_left _ _ (ap (same_addr a) last ∙ same_self a))
        (front_or_last b a x.locked.items (ap (in_list b) (sym more) ∙ there)))
