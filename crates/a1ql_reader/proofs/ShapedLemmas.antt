-- That a tree of the right shape says a pattern.
use Rattle.std.proofs.Common.{◌≡◌, ℕ, List, [], ◌∷◌, map, Bool, true, false, Option, Some, None, Result, Ok, Err, refl, sym, ap, ◌∙◌, subst, rules, true≢false}
use Rattle.std.specs.Prelude.{codes, is_ok, is_some, option_and_then}
use Rattle.std.specs.Str.{bytes_eq}
use Rattle.std.specs.List.{list_all}
use Rattle.std.proofs.lemmas.Bool.{and_parts}
use Rattle.std.proofs.lemmas.Slice.Eq.{bytes_eq-Decides}
use Rattle.a1_json.specs.declared.tree.Json.{Json, map-Json, roll-Json, the_lemmas}
use Rattle.a1_json.specs.declared.tree.Json.TheOpen.{Json-F}
use Rattle.a1_json.specs.declared.tree.Json.TheFolds.{ind-Json}
use Rattle.a1_json.specs.Fields.{Fields, fields_in, member_of, as_text}
use Rattle.type_schema.specs.Refusals.{need, passing, unless}
use Rattle.a1ql_reader.specs.declared.places.Place.{Place}
use Rattle.a1ql_reader.specs.declared.places.Place.TheVariants as at
use Rattle.a1ql_reader.specs.declared.patterns.Hop.{Hop}
use Rattle.a1ql_reader.specs.Places.{direction, place_of}
use Rattle.a1ql_reader.specs.Walk.{Parts}
use Rattle.a1ql_reader.specs.Shapes.{Fits, fits, fits_step, has, member_fits, members_fit, is_one, is_vertex, is_edge}
use Rattle.a1ql_reader.specs.Pattern.{PatternWord, Shape, Says, says, says_step, kind_in, matches_in, hop_or, hop_in, end_in, vertex_of, edge_of, entry_of, hops_of, pattern_of, PatternLaw}
use Rattle.a1ql_reader.proofs.WalkLemmas.{walk_roll}

record IsSaid (j : Json) : Type 0 where
  pub vertex : (inside : Bool) → fits j (at.Vertex inside) ≡ true → is_ok (says j).vertex ≡ true
  pub edge : (inside : Bool) → fits j (at.Edge inside) ≡ true → (out : Bool) → is_ok ((says j).edge out) ≡ true
  pub entry : fits j at.Entry ≡ true → is_ok (says j).entry ≡ true
  pub matches : fits j at.Matches ≡ true → is_ok (says j).matches ≡ true

abbrev Said : Type 0
Said = (j : Json) × IsSaid j

abbrev Members : Type 0
Members = List (List ℕ × Said)

abbrev fields_of : Members → Fields
fields_of ms = map {B = List ℕ × Json} (λ m. (m.0, m.1.0)) ms

abbrev fit : Fields → Parts Fits
fit fields = map (λ m. (m.0, fits m.1)) fields

abbrev told : Fields → Parts Says
told fields = map (λ m. (m.0, says m.1)) fields

same_bytes : (xs ys : List ℕ) → bytes_eq xs ys ≡ true → xs ≡ ys
same_bytes xs ys is = (bytes_eq-Decides xs ys).0 is

-- ---- results that are right

then_ok : {X Y : Type 0} (r : Result X PatternWord) (next : X → Result Y PatternWord) → is_ok r ≡ true → ((x : X) → is_ok (next x) ≡ true) → is_ok (passing r next) ≡ true
unfolding passing
then_ok (Ok x) next is more = more x
then_ok (Err w) next is more = absurd (true≢false (sym is))

-- ---- a list

hops_ok : (items : List Said) → list_all (λ f. f at.Entry) (map fits (map (λ e. e.0) items)) ≡ true → is_ok (hops_of (map says (map (λ e. e.0) items))) ≡ true
hops_ok [] fit = refl
hops_ok (e ∷ items) fit =
    let both = and_parts _ _ fit in
    then_ok (says e.0).entry _ (e.1.entry both.0) (λ hop. then_ok (hops_of (map says (map (λ e. e.0) items))) _ (hops_ok items both.1) (λ hops. refl))

-- ---- an object

-- what stands at a member of this name fits its place
placed : (place : Place) (name : List ℕ) (p : Place) → place_of place name ≡ Some p → (m : List ℕ × Json) → bytes_eq m.0 name ≡ true → member_fits (place_of place m.0) (fits m.1) ≡ true → fits m.1 p ≡ true
placed place name p there m is fit =
    subst (λ (o : Option Place). member_fits o (fits m.1) ≡ true) (ap (place_of place) (same_bytes m.0 name is) ∙ there) fit

-- what is not so of a level is not so of its value
never : (level : Json-F Json) (p : Place) → fits_step (roll-Json level) (map-Json Json Fits fits level) p ≡ false → fits (roll-Json level) p ≡ true → ⊥
never level p none so = true≢false (sym so ∙ (ap (λ (f : Fits). f p) (walk_roll fits_step level) ∙ none))

kind_text : (j : Json) → fits j at.Kind ≡ true → is_some (as_text j) ≡ true
kind_text = ind-Json (λ j. fits j at.Kind ≡ true → is_some (as_text j) ≡ true) (λ level inner is. at_level level)
  where
    text_is : (t : List ℕ) → is_some (as_text (roll-Json (Json-F.Text t))) ≡ true
    text_is t = search (rules, the_lemmas)

    at_level : (level : Json-F Json) → fits (roll-Json level) at.Kind ≡ true → is_some (as_text (roll-Json level)) ≡ true
    at_level Json-F.Null so = absurd (never Json-F.Null at.Kind refl so)
    at_level (Json-F.Bool b) so = absurd (never (Json-F.Bool b) at.Kind refl so)
    at_level (Json-F.Int z) so = absurd (never (Json-F.Int z) at.Kind refl so)
    at_level (Json-F.Text t) so = text_is t
    at_level (Json-F.List items) so = absurd (never (Json-F.List items) at.Kind refl so)
    at_level (Json-F.Members ms) so = absurd (never (Json-F.Members ms) at.Kind refl so)

kind_there : (place : Place) → place_of place (codes "_type") ≡ Some at.Kind → (fields : Fields) → has (codes "_type") fields ≡ true → members_fit place (fit fields) ≡ true
    → is_some (option_and_then as_text (member_of (codes "_type") fields)) ≡ true
kind_there place there [] here fit = absurd (true≢false (sym here))
kind_there place there (m ∷ fields) here fit = by_name (λ h. kind_there place there fields h (and_parts _ _ fit).1) (bytes_eq m.0 (codes "_type")) refl
  where
    by_name : (has (codes "_type") fields ≡ true → is_some (option_and_then as_text (member_of (codes "_type") fields)) ≡ true)
        → (b : Bool) → bytes_eq m.0 (codes "_type") ≡ b → is_some (option_and_then as_text (member_of (codes "_type") (m ∷ fields))) ≡ true
    by_name later true is = rw is (kind_text m.1 (placed place (codes "_type") at.Kind there m is (and_parts _ _ fit).0))
    by_name later false is = rw is (later (rw is at here))

need_ok : (o : Option (List ℕ)) → is_some o ≡ true → is_ok (need {Y = List ℕ} o Shape Ok) ≡ true
unfolding need
need_ok None is = absurd (true≢false (sym is))
need_ok (Some x) is = refl

matches_ok : (inside : Bool) (ms : Members) → members_fit (at.Vertex inside) (fit (fields_of ms)) ≡ true → is_ok (matches_in (told (fields_of ms))) ≡ true
matches_ok inside [] fit = refl
matches_ok inside (m ∷ ms) fit = by_name (matches_ok inside ms (and_parts _ _ fit).1) (bytes_eq m.0 (codes "_match")) refl
  where
    by_name : is_ok (matches_in (told (fields_of ms))) ≡ true → (b : Bool) → bytes_eq m.0 (codes "_match") ≡ b → is_ok (matches_in (told (fields_of (m ∷ ms)))) ≡ true
    by_name later true is = rw is (m.1.1.matches (placed (at.Vertex inside) (codes "_match") at.Matches refl (m.0, m.1.0) is (and_parts _ _ fit).0))
    by_name later false is = rw is later

end_ok : (inside : Bool) (ms : Members) → has (codes "_vertex") (fields_of ms) ≡ true → members_fit (at.Edge inside) (fit (fields_of ms)) ≡ true → is_ok (end_in (told (fields_of ms))) ≡ true
end_ok inside [] here fit = absurd (true≢false (sym here))
end_ok inside (m ∷ ms) here fit = by_name (λ h. end_ok inside ms h (and_parts _ _ fit).1) (bytes_eq m.0 (codes "_vertex")) refl
  where
    by_name : (has (codes "_vertex") (fields_of ms) ≡ true → is_ok (end_in (told (fields_of ms))) ≡ true) → (b : Bool) → bytes_eq m.0 (codes "_vertex") ≡ b → is_ok (end_in (told (fields_of (m ∷ ms)))) ≡ true
    by_name later true is = rw is (m.1.1.vertex inside (placed (at.Edge inside) (codes "_vertex") (at.Vertex inside) refl (m.0, m.1.0) is (and_parts _ _ fit).0))
    by_name later false is = rw is (later (rw is at here))

abbrev HopsAt : Place → Bool → Type 0
HopsAt place inside = (place_of place (codes "_out_edge") ≡ Some (at.Edge inside)) × (place_of place (codes "_in_edge") ≡ Some (at.Edge inside))

-- a member whose name is that of a hop says one
edge_ok : (place : Place) (inside : Bool) → HopsAt place inside → (m : List ℕ × Said) (out : Bool) → direction m.0 ≡ Some out
    → member_fits (place_of place m.0) (fits m.1.0) ≡ true → is_ok ((says m.1.0).edge out) ≡ true
edge_ok place inside there m out leads fit = by_out (bytes_eq m.0 (codes "_out_edge")) (bytes_eq m.0 (codes "_in_edge")) refl refl
  where
    by_out : (b c : Bool) → bytes_eq m.0 (codes "_out_edge") ≡ b → bytes_eq m.0 (codes "_in_edge") ≡ c → is_ok ((says m.1.0).edge out) ≡ true
    by_out true c is other = m.1.1.edge inside (placed place (codes "_out_edge") (at.Edge inside) there.0 (m.0, m.1.0) is fit) out
    by_out false true is other = m.1.1.edge inside (placed place (codes "_in_edge") (at.Edge inside) there.1 (m.0, m.1.0) other fit) out
    by_out false false is other = absurd (true≢false (sym (ap is_some (rw (is, other) at leads))))

hop_ok : (place : Place) (inside : Bool) → HopsAt place inside → (ms : Members) → members_fit place (fit (fields_of ms)) ≡ true → is_ok (hop_in (told (fields_of ms))) ≡ true
hop_ok place inside there [] fit = refl
hop_ok place inside there (m ∷ ms) fit = by_direction (hop_ok place inside there ms (and_parts _ _ fit).1) (direction m.0) refl
  where
    by_direction : is_ok (hop_in (told (fields_of ms))) ≡ true → (d : Option Bool) → direction m.0 ≡ d → is_ok (hop_or d (says m.1.0) (hop_in (told (fields_of ms)))) ≡ true
    by_direction later None is = later
    by_direction later (Some out) is = then_ok ((says m.1.0).edge out) _ (edge_ok place inside there m out is (and_parts _ _ fit).0) (λ hop. refl)

no_place : (m : List ℕ × Said) → direction m.0 ≡ None → member_fits (place_of at.Entry m.0) (fits m.1.0) ≡ false
no_place m is = rw is refl

entry_then : (r : Result Hop PatternWord) → is_ok r ≡ true → is_ok (passing (passing r (λ hop. Ok (Some hop))) (λ hop. need hop Shape Ok)) ≡ true
unfolding passing need
entry_then (Ok hop) is = refl
entry_then (Err word) is = absurd (true≢false (sym is))

vertex_ok : (inside : Bool) (ms : Members) → is_vertex (fields_of ms) ≡ true → members_fit (at.Vertex inside) (fit (fields_of ms)) ≡ true → is_ok (vertex_of (fields_of ms) (told (fields_of ms))) ≡ true
unfolding vertex_of
vertex_ok inside ms is fit =
    let kind = need_ok _ (kind_there (at.Vertex inside) refl (fields_of ms) (and_parts _ _ is).0 fit) in
    then_ok (kind_in (fields_of ms)) _ kind (λ k. then_ok (matches_in (told (fields_of ms))) _ (matches_ok inside ms fit) (λ hops.
    then_ok (hop_in (told (fields_of ms))) _ (hop_ok (at.Vertex inside) inside (refl, refl) ms fit) (λ hop. refl)))

leads_ok : (inside out : Bool) (ms : Members) → is_edge (fields_of ms) ≡ true → members_fit (at.Edge inside) (fit (fields_of ms)) ≡ true → is_ok (edge_of out (fields_of ms) (told (fields_of ms))) ≡ true
unfolding edge_of
leads_ok inside out ms is fit =
    let there = and_parts _ _ is in
    let kind = need_ok _ (kind_there (at.Edge inside) refl (fields_of ms) there.0 fit) in
    then_ok (kind_in (fields_of ms)) _ kind (λ k. then_ok (end_in (told (fields_of ms))) _ (end_ok inside ms there.1 fit) (λ to. refl))

entry_ok : (ms : Members) → is_one (fields_of ms) ≡ true → members_fit at.Entry (fit (fields_of ms)) ≡ true → is_ok (entry_of (told (fields_of ms))) ≡ true
unfolding entry_of passing need
entry_ok [] is fit = absurd (true≢false (sym is))
entry_ok (m ∷ n ∷ ms) is fit = absurd (true≢false (sym is))
entry_ok (m ∷ []) is fit = by_direction (direction m.0) refl
  where
    by_direction : (d : Option Bool) → direction m.0 ≡ d → is_ok (passing (hop_or d (says m.1.0) (Ok None)) (λ hop. need hop Shape Ok)) ≡ true
    by_direction None d = absurd (true≢false (sym (and_parts _ _ fit).0 ∙ no_place m d))
    by_direction (Some out) d = entry_then ((says m.1.0).edge out) (edge_ok at.Entry true (refl, refl) m out d (and_parts _ _ fit).0)

-- ---- every value

module _ (level : Json-F Json) where
  abbrev here : Json
  here = roll-Json level

  -- a value that fits no place of a pattern
  apart : ((inside : Bool) → fits_step here (map-Json Json Fits fits level) (at.Vertex inside) ≡ false) → ((inside : Bool) → fits_step here (map-Json Json Fits fits level) (at.Edge inside) ≡ false)
      → fits_step here (map-Json Json Fits fits level) at.Entry ≡ false → fits_step here (map-Json Json Fits fits level) at.Matches ≡ false → IsSaid here
  apart v e en m = record {
    vertex = λ inside so. absurd (never level (at.Vertex inside) (v inside) so);
    edge = λ inside so out. absurd (never level (at.Edge inside) (e inside) so);
    entry = λ so. absurd (never level at.Entry en so);
    matches = λ so. absurd (never level at.Matches m so);
  }

fields_rolled : (fields : Fields) → fields_in (roll-Json (Json-F.Members fields)) ≡ fields
fields_rolled fields = search (rules, the_lemmas)

abbrev of_level : Json-F Said → Json-F Json
of_level = map-Json Said Json (λ e. e.0)

all_said : (level : Json-F Said) → IsSaid (roll-Json (of_level level))
all_said Json-F.Null = apart Json-F.Null (λ i. refl) (λ i. refl) refl refl
all_said (Json-F.Bool b) = apart (Json-F.Bool b) (λ i. refl) (λ i. refl) refl refl
all_said (Json-F.Int z) = apart (Json-F.Int z) (λ i. refl) (λ i. refl) refl refl
all_said (Json-F.Text t) = apart (Json-F.Text t) (λ i. refl) (λ i. refl) refl refl
all_said (Json-F.List items) =
    let level : Json-F Json = Json-F.List (map (λ e. e.0) items) in
    let fitting = walk_roll fits_step level in
    let saying = walk_roll says_step level in
    record {
      vertex = λ inside so. absurd (never level (at.Vertex inside) refl so);
      edge = λ inside so out. absurd (never level (at.Edge inside) refl so);
      entry = λ so. absurd (never level at.Entry refl so);
      matches = λ so.
          let entries = (and_parts _ _ (sym (ap (λ (f : Fits). f at.Matches) fitting) ∙ so)).1 in
          ap (λ (s : Says). is_ok s.matches) saying ∙ hops_ok items entries;
    }
all_said (Json-F.Members ms) =
    let fields = fields_of ms in
    let level : Json-F Json = Json-F.Members fields in
    let fitting = walk_roll fits_step level in
    let saying = walk_roll says_step level in
    let same = fields_rolled fields in
    record {
      vertex = λ inside so.
          let both = and_parts _ _ (sym (ap (λ (f : Fits). f (at.Vertex inside)) fitting) ∙ so) in
          ap (λ (s : Says). is_ok s.vertex) saying
          ∙ (ap (λ fs. is_ok (vertex_of fs (told fields))) same ∙ vertex_ok inside ms (sym (ap is_vertex same) ∙ both.0) both.1);
      edge = λ inside so out.
          let both = and_parts _ _ (sym (ap (λ (f : Fits). f (at.Edge inside)) fitting) ∙ so) in
          ap (λ (s : Says). is_ok (s.edge out)) saying
          ∙ (ap (λ fs. is_ok (edge_of out fs (told fields))) same ∙ leads_ok inside out ms (sym (ap is_edge same) ∙ both.0) both.1);
      entry = λ so.
          let both = and_parts _ _ (sym (ap (λ (f : Fits). f at.Entry) fitting) ∙ so) in
          ap (λ (s : Says). is_ok s.entry) saying ∙ entry_ok ms (sym (ap is_one same) ∙ both.0) both.1;
      matches = λ so. absurd (never level at.Matches refl so);
    }

said : (j : Json) → IsSaid j
said = ind-Json IsSaid (λ level inner is. subst (λ l. IsSaid (roll-Json l)) is (all_said inner))

-- a tree of the right shape whose names are names has a pattern
pub has_pattern : PatternLaw
unfolding pattern_of unless
has_pattern j shape names = rw (shape, names) ((said j).vertex false shape)
