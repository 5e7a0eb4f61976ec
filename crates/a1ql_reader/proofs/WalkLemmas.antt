-- What a walk says of each kind of value.
use Rattle.std.proofs.Common.{◌≡◌, ℕ, ℤ, List, [], ◌∷◌, map, Bool, refl, sym, ap, ◌∙◌, subst, rules}
use Rattle.a1_json.specs.declared.tree.Json.{Json, map-Json, roll-Json, fold-Json, the_lemmas}
use Rattle.a1_json.specs.declared.tree.Json.TheOpen.{Json-F}
use Rattle.a1_json.specs.declared.tree.Json.TheVariants as json
use Rattle.a1_json.specs.declared.tree.Json.TheFolds.{fold-roll-Json, ind-Json}
use Rattle.a1_json.specs.Fields.{Fields}
use Rattle.a1_json.specs.Fields.{items_in, fields_in}
use Rattle.a1ql_reader.specs.Walk.{level_of, walk_step, walk}

module _ {A : Type 0} (step : Json → Json-F A → A) where
  abbrev told : Json → Json × A
  told = fold-Json (Json × A) (walk_step step)

  abbrev IsFirst : Json → Type 0
  IsFirst j = (told j).0 ≡ j

  abbrev First : Type 0
  First = (j : Json) × IsFirst j

  items_first : (items : List First) → map (λ t. t.0) (map told (map (λ e. e.0) items)) ≡ map (λ e. e.0) items
  items_first [] = refl
  items_first (e ∷ items) = λ i. e.1 i ∷ items_first items i

  members_first : (ms : List (List ℕ × First)) → map {B = List ℕ × Json} (λ m. (m.0, m.1.0)) (map {B = List ℕ × (Json × A)} (λ m. (m.0, told m.1)) (map {B = List ℕ × Json} (λ m. (m.0, m.1.0)) ms)) ≡ map {B = List ℕ × Json} (λ m. (m.0, m.1.0)) ms
  members_first [] = refl
  members_first (m ∷ ms) = λ i. (m.0, m.1.1 i) ∷ members_first ms i

  level_first : (level : Json-F First) → level_of (map-Json Json (Json × A) told (map-Json First Json (λ e. e.0) level)) ≡ roll-Json (map-Json First Json (λ e. e.0) level)
  level_first Json-F.Null = refl
  level_first (Json-F.Bool b) = refl
  level_first (Json-F.Int z) = refl
  level_first (Json-F.Text s) = refl
  level_first (Json-F.List items) = ap (λ js. roll-Json (Json-F.List js)) (items_first items)
  level_first (Json-F.Members ms) = ap (λ js. roll-Json (Json-F.Members js)) (members_first ms)

  -- what goes along is the value itself
  first : (j : Json) → IsFirst j
  first = ind-Json IsFirst (λ level inner is.
      ap (λ t. t.0) (fold-roll-Json (Json × A) (walk_step step) level)
      ∙ subst (λ l. level_of (map-Json Json (Json × A) told l) ≡ roll-Json l) is (level_first inner))

  items_told : (items : List Json) → map (λ t. t.1) (map told items) ≡ map (walk step) items
  unfolding walk
  items_told [] = refl
  items_told (j ∷ items) = ap (λ rest. walk step j ∷ rest) (items_told items)

  members_told : (ms : Fields) → map {B = List ℕ × A} (λ m. (m.0, m.1.1)) (map {B = List ℕ × (Json × A)} (λ m. (m.0, told m.1)) ms) ≡ map {B = List ℕ × A} (λ m. (m.0, walk step m.1)) ms
  unfolding walk
  members_told [] = refl
  members_told (m ∷ ms) = ap (λ rest. (m.0, walk step m.1) ∷ rest) (members_told ms)

  level_told : (level : Json-F Json) → map-Json (Json × A) A (λ t. t.1) (map-Json Json (Json × A) told level) ≡ map-Json Json A (walk step) level
  level_told Json-F.Null = refl
  level_told (Json-F.Bool b) = refl
  level_told (Json-F.Int z) = refl
  level_told (Json-F.Text s) = refl
  level_told (Json-F.List items) = ap Json-F.List (items_told items)
  level_told (Json-F.Members ms) = ap Json-F.Members (members_told ms)

  -- what is said of a level
  pub walk_roll : (level : Json-F Json) → walk step (roll-Json level) ≡ step (roll-Json level) (map-Json Json A (walk step) level)
  unfolding walk
  walk_roll level =
      let rolled = fold-roll-Json (Json × A) (walk_step step) level in
      let itself : level_of (map-Json Json (Json × A) told level) ≡ roll-Json level = sym (ap (λ t. t.0) rolled) ∙ first (roll-Json level) in
      ap (λ t. t.1) rolled ∙ (λ i. step (itself i) (level_told level i))

  at_level : (j : Json) (level : Json-F Json) → roll-Json level ≡ j → walk step j ≡ step j (map-Json Json A (walk step) level)
  at_level j level is = subst (λ k. walk step k ≡ step k (map-Json Json A (walk step) level)) is (walk_roll level)

  -- the same, of each kind of value
  pub at_null : (j : Json) → j ≡ json.Null → walk step j ≡ step j Json-F.Null
  at_null j is = at_level j Json-F.Null (json.rolls-Null ∙ sym is)

  pub at_flag : (j : Json) (b : Bool) → j ≡ json.Bool b → walk step j ≡ step j (Json-F.Bool b)
  at_flag j b is = at_level j (Json-F.Bool b) (json.rolls-Bool b ∙ sym is)

  pub at_int : (j : Json) (z : ℤ) → j ≡ json.Int z → walk step j ≡ step j (Json-F.Int z)
  at_int j z is = at_level j (Json-F.Int z) (json.rolls-Int z ∙ sym is)

  pub at_text : (j : Json) (t : List ℕ) → j ≡ json.Text t → walk step j ≡ step j (Json-F.Text t)
  at_text j t is = at_level j (Json-F.Text t) (json.rolls-Text t ∙ sym is)

  pub at_list : (j : Json) (items : List Json) → j ≡ json.List items → walk step j ≡ step j (Json-F.List (map (walk step) items))
  at_list j items is = at_level j (Json-F.List items) (json.rolls-List items ∙ sym is)

  pub at_object : (j : Json) (ms : Fields) → j ≡ json.Members ms → walk step j ≡ step j (Json-F.Members (map (λ m. (m.0, walk step m.1)) ms))
  at_object j ms is = at_level j (Json-F.Members ms) (json.rolls-Members ms ∙ sym is)

-- what is in a list, and in an object
pub items_is : (j : Json) (items : List Json) → j ≡ json.List items → items_in j ≡ items
items_is j items is =
    let opened : items_in (json.List items) ≡ items = search (rules, the_lemmas) in
    ap items_in is ∙ opened

pub fields_is : (j : Json) (ms : Fields) → j ≡ json.Members ms → fields_in j ≡ ms
fields_is j ms is =
    let opened : fields_in (json.Members ms) ≡ ms = search (rules, the_lemmas) in
    ap fields_in is ∙ opened
