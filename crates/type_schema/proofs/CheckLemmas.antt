-- A record made value by value, as a loop does, and what fits where no fault was found.
use Rattle.std.proofs.Common.{◌≡◌, ℕ, suc, ◌+◌, ◌≤◌, ◌<◌, List, [], ◌∷◌, ◌++◌, length, get_or, drop, Bool, true, false, not, Option, Some, None, Result, Ok, Err, refl, sym, ap, ◌∙◌, subst, append_assoc, append-nil, nat_lt, nat_le, ltb-false, le-leb, drop-cons, add-one, length-drop, arith}
use Rattle.std.specs.Prelude.{◌&&◌, is_none, option_map, option_and_then, IfOk, IsTrue}
use Rattle.std.specs.Result.{result_ok}
use Rattle.hex.specs.Hex.{decode_of}
use Rattle.std.proofs.lemmas.Bool.{and_from, and_parts}
use Rattle.std.proofs.lemmas.Bool.Decides.{nat_tests}
use Rattle.std.proofs.lemmas.List.{drop_all}
use Rattle.a1_base.specs.declared.limits.TheConstants.{RECORD_LIMIT}
use Rattle.a1_value.specs.declared.given.Given.{Given}
use Rattle.a1_value.specs.declared.given.Given.TheVariants as given
use Rattle.a1_value.specs.declared.value.Value.{Value}
use Rattle.a1_value.specs.declared.value.Value.TheVariants as value
use Rattle.type_schema.specs.declared.schema.Attr.{Attr}
use Rattle.type_schema.specs.declared.schema.Kind.{Kind}
use Rattle.type_schema.specs.declared.schema.Kind.TheVariants as kind
use Rattle.type_schema.specs.declared.refusal.Refusal.{Refusal}
use Rattle.type_schema.specs.declared.refusal.Word.TheVariants as word
use Rattle.type_schema.specs.declared.refusal.GraphFault.{GraphFault}
use Rattle.type_schema.specs.declared.refusal.GraphFault.TheVariants as fault
use Rattle.type_schema.specs.Refusals.{refused, refused_at, unless, need, unless_at, passing, Gives}
use Rattle.type_schema.specs.Names.{Name}
use Rattle.type_schema.specs.Layout.{record_bytes}
use Rattle.type_schema.specs.Schemas.{Schema, Record, Members, behind, is_of, are_of, too_long, fits, value_in, value_over, member, missing, unknown, made, made_over, if_short, checked, merged}

-- ---- value by value

-- an attribute, and those behind it
pub drop_here : (schema : Schema) (i : ℕ) (a : Attr) → i < length schema → a ≡ get_or schema i a → drop i schema ≡ a ∷ drop (i + 1) schema
drop_here schema i a lt here = drop-cons schema i a lt ∙ (ap (λ z. z ∷ drop (suc i) schema) (sym here) ∙ ap (λ n. a ∷ drop n schema) (sym (add-one i)))

-- the values in front, and those that are still to be made
abbrev pub with_front : Record → Result Record Refusal → Result Record Refusal
with_front front (Ok values) = Ok (front ++ values)
with_front front (Err r) = Err r

pub regroup : (front : Record) (v : Value) (next : Result Record Refusal) → with_front (front ++ v ∷ []) next ≡ with_front front (behind v next)
regroup front v (Ok values) = ap Ok (append_assoc front (v ∷ []) values)
regroup front v (Err r) = refl

-- a refusal stays where what it is a refusal of ends in it
pub fault_of : {X Y : Type 0} (f : GraphFault) (step : Result X Refusal) (total : Result Y Refusal) → ((r : Refusal) → step ≡ Err r → total ≡ Err r) → Gives {X = X} (Err f) step → Gives {X = Y} (Err f) total
fault_of (fault.Refused r) step total next h = next r h
fault_of fault.Memory step total next h = tt

module _ (front : Record) (o : Option Value) (f : Refusal) (next total : Result Record Refusal) (so_far : with_front front (need o f (λ v. behind v next)) ≡ total) where
  step_more : (v : Value) → need o f Ok ≡ Ok v → with_front (front ++ v ∷ []) next ≡ total
  unfolding need
  step_more v h = elim o as (λ x. need x f Ok ≡ Ok v → with_front front (need x f (λ v. behind v next)) ≡ total → with_front (front ++ v ∷ []) next ≡ total) [
    | None ↦ λ e s. absurd cc
    | Some w ↦ λ e s. let is : w ≡ v = cc in regroup front v next ∙ (subst (λ z. with_front front (behind z next) ≡ total) is s)
  ] h so_far

  step_fails : (g : Refusal) → need o f Ok ≡ Err g → total ≡ Err g
  unfolding need
  step_fails g h = elim o as (λ x. need x f Ok ≡ Err g → with_front front (need x f (λ v. behind v next)) ≡ total → total ≡ Err g) [
    | None ↦ λ e s. let is : f ≡ g = cc in sym s ∙ ap Err is
    | Some w ↦ λ e s. absurd cc
  ] h so_far

module _ (schema : Schema) (members : Members) (front : Record) (i : ℕ) (a : Attr) (total : Result Record Refusal) (lt : i < length schema) (here : a ≡ get_or schema i a) (so_far : with_front front (made (drop i schema) members) ≡ total) where
  opened : with_front front (made (a ∷ drop (i + 1) schema) members) ≡ total
  opened = subst (λ z. with_front front (made z members) ≡ total) (drop_here schema i a lt here) so_far

  pub made_more : (v : Value) → need (option_and_then (value_in a.kind) (member a.name members)) (refused_at word.Kind a.name) Ok ≡ Ok v → with_front (front ++ v ∷ []) (made (drop (i + 1) schema) members) ≡ total
  made_more v h = step_more front _ _ _ total opened v h

  pub made_fails : (f : GraphFault) → Gives {X = Value} (Err f) (need (option_and_then (value_in a.kind) (member a.name members)) (refused_at word.Kind a.name) Ok) → Gives {X = Record} (Err f) total
  made_fails f h = fault_of f _ total (step_fails front _ _ _ total opened) h

pub made_all : (schema : Schema) (members : Members) (front : Record) (i : ℕ) (total : Result Record Refusal) → with_front front (made (drop i schema) members) ≡ total → length schema ≤ i → total ≡ Ok front
made_all schema members front i total so_far le =
    sym so_far ∙ (ap (λ z. with_front front (made z members)) (drop_all i schema le) ∙ ap Ok (append-nil front))

-- ---- value by value over old ones

module _ (schema : Schema) (old : Record) (members : Members) (front : Record) (i : ℕ) (a : Attr) (w : Value) (after : Record) (total : Result Record Refusal)
    (lt : i < length schema) (here : a ≡ get_or schema i a) (is : old ≡ w ∷ after) (so_far : with_front front (made_over (drop i schema) old members) ≡ total) where
  over_opened : with_front front (made_over (a ∷ drop (i + 1) schema) (w ∷ after) members) ≡ total
  over_opened = subst (λ z. with_front front (made_over (a ∷ drop (i + 1) schema) z members) ≡ total) is (subst (λ z. with_front front (made_over z old members) ≡ total) (drop_here schema i a lt here) so_far)

  pub over_more : (v : Value) → need (value_over a.kind w (member a.name members)) (refused_at word.Kind a.name) Ok ≡ Ok v → with_front (front ++ v ∷ []) (made_over (drop (i + 1) schema) after members) ≡ total
  over_more v h = step_more front _ _ _ total over_opened v h

  pub over_fails : (f : GraphFault) → Gives {X = Value} (Err f) (need (value_over a.kind w (member a.name members)) (refused_at word.Kind a.name) Ok) → Gives {X = Record} (Err f) total
  over_fails f h = fault_of f _ total (step_fails front _ _ _ total over_opened) h

-- no value is left for an attribute
pub over_none : (schema : Schema) (old : Record) (members : Members) (front : Record) (i : ℕ) (total : Result Record Refusal) → with_front front (made_over (drop i schema) old members) ≡ total → i < length schema → old ≡ [] → total ≡ Ok front
over_none schema old members front i total so_far lt is =
    by (drop i schema) (omega (arith, length-drop i schema)) (subst (λ z. with_front front (made_over (drop i schema) z members) ≡ total) is so_far) where
      by : (rest : Schema) → 0 < length rest → with_front front (made_over rest [] members) ≡ total → total ≡ Ok front
      by [] pos s = absurd (omega arith)
      by (a ∷ rest) pos s = sym s ∙ ap Ok (append-nil front)

pub over_all : (schema : Schema) (old : Record) (members : Members) (front : Record) (i : ℕ) (total : Result Record Refusal) → with_front front (made_over (drop i schema) old members) ≡ total → length schema ≤ i → total ≡ Ok (front ++ old)
over_all schema old members front i total so_far le = sym so_far ∙ ap (λ z. with_front front (made_over z old members)) (drop_all i schema le)

-- ---- lengths

-- what is not at most so much is above it
pub over : (n : ℕ) (b : Bool) → nat_le n RECORD_LIMIT ≡ b → nat_lt RECORD_LIMIT n ≡ not b
over n b h = grind (arith, nat_tests)

-- ---- what a passed guard says

module _ {X : Type 0} where
  pub unless_back : (b : Bool) (f : Refusal) (next : Result X Refusal) (x : X) → unless b f next ≡ Ok x → (b ≡ false) × (next ≡ Ok x)
  unfolding unless
  unless_back true f next x e = absurd cc
  unless_back false f next x e = (refl, e)

  unless_at_back : (o : Option Name) (told : Name → Refusal) (next : Result X Refusal) (x : X) → unless_at o told next ≡ Ok x → (o ≡ None) × (next ≡ Ok x)
  unfolding unless_at
  unless_at_back None told next x e = (refl, e)
  unless_at_back (Some name) told next x e = absurd cc

  need_back : {Y : Type 0} → (o : Option X) (f : Refusal) (next : X → Result Y Refusal) (y : Y) → need o f next ≡ Ok y → (x : X) × (o ≡ Some x) × (next x ≡ Ok y)
  unfolding need
  need_back None f next y e = absurd cc
  need_back (Some x) f next y e = (x, refl, e)

  pub passing_back : {Y : Type 0} → (p : Result X Refusal) (next : X → Result Y Refusal) (y : Y) → passing p next ≡ Ok y → (x : X) × (p ≡ Ok x) × (next x ≡ Ok y)
  unfolding passing
  passing_back (Ok x) next y e = (x, refl, e)
  passing_back (Err f) next y e = absurd cc

pub behind_back : (v : Value) (r : Result Record Refusal) (values : Record) → behind v r ≡ Ok values → (rest : Record) × (r ≡ Ok rest) × (values ≡ v ∷ rest)
behind_back v (Ok rest) values e = (rest, refl, cc)
behind_back v (Err f) values e = absurd cc

-- ---- kinds

of_bytes : (o : Option (List ℕ)) (v : Value) → option_map value.Bytes o ≡ Some v → is_of kind.Bytes v ≡ true
of_bytes None v e = absurd cc
of_bytes (Some b) v e = let f : value.Bytes b ≡ v = cc in subst (λ z. is_of kind.Bytes z ≡ true) f refl

value_of : (k : Kind) (g : Given) (v : Value) → value_in k g ≡ Some v → is_of k v ≡ true
value_of kind.Int (given.Int n) v e = let f : value.Int n ≡ v = cc in subst (λ z. is_of kind.Int z ≡ true) f refl
value_of kind.Int (given.Text t) v e = absurd cc
value_of kind.Text (given.Int n) v e = absurd cc
value_of kind.Text (given.Text t) v e = let f : value.Text t ≡ v = cc in subst (λ z. is_of kind.Text z ≡ true) f refl
value_of kind.Bytes (given.Int n) v e = absurd cc
value_of kind.Bytes (given.Text t) v e = of_bytes (result_ok (decode_of t)) v e

value_of_member : (k : Kind) (o : Option Given) (v : Value) → option_and_then (value_in k) o ≡ Some v → is_of k v ≡ true
value_of_member k None v e = absurd cc
value_of_member k (Some g) v e = value_of k g v e

value_of_over : (k : Kind) (old : Value) (o : Option Given) (v : Value) → is_of k old ≡ true → value_over k old o ≡ Some v → is_of k v ≡ true
value_of_over k old None v was e = let f : old ≡ v = cc in subst (λ z. is_of k z ≡ true) f was
value_of_over k old (Some g) v was e = value_of k g v e

-- a value and the rest
pub are_of_more : (a : Attr) (schema : Schema) (v : Value) (rest values : Record) → values ≡ v ∷ rest → is_of a.kind v ≡ true → are_of schema rest ≡ true → are_of (a ∷ schema) values ≡ true
are_of_more a schema v rest values is one more = subst (λ z. are_of (a ∷ schema) z ≡ true) (sym is) (and_from (is_of a.kind v) (are_of schema rest) one more)

made_of : (schema : Schema) (members : Members) (values : Record) → made schema members ≡ Ok values → are_of schema values ≡ true
made_of [] members values e = let nothing : Record = [] in let f : nothing ≡ values = cc in subst (λ z. are_of [] z ≡ true) f refl
made_of (a ∷ schema) members values e =
    let h = need_back (option_and_then (value_in a.kind) (member a.name members)) (refused_at word.Kind a.name) (λ v. behind v (made schema members)) values e in
    let t = behind_back h.0 (made schema members) values h.2 in
    are_of_more a schema h.0 t.0 values t.2 (value_of_member a.kind (member a.name members) h.0 h.1) (made_of schema members t.0 t.1)

made_over_of : (schema : Schema) (old : Record) (members : Members) (values : Record) → are_of schema old ≡ true → made_over schema old members ≡ Ok values → are_of schema values ≡ true
made_over_of [] old members values was e = let f : old ≡ values = cc in subst (λ z. are_of [] z ≡ true) f was
made_over_of (a ∷ schema) [] members values was e = absurd cc
made_over_of (a ∷ schema) (v ∷ old) members values was e =
    let p = and_parts (is_of a.kind v) (are_of schema old) was in
    let h = need_back (value_over a.kind v (member a.name members)) (refused_at word.Kind a.name) (λ w. behind w (made_over schema old members)) values e in
    let t = behind_back h.0 (made_over schema old members) values h.2 in
    are_of_more a schema h.0 t.0 values t.2 (value_of_over a.kind v (member a.name members) h.0 p.0 h.1) (made_over_of schema old members t.0 p.1 t.1)

-- ---- what fits

-- values of their kinds that are not too long are a record of the schema
short_fits : (schema : Schema) (values found : Record) → are_of schema values ≡ true → if_short schema values ≡ Ok found → fits schema found ≡ true
unfolding fits
short_fits schema values found of e =
    let a = unless_at_back (too_long schema values) (refused_at word.Long) (unless (nat_lt RECORD_LIMIT (length (record_bytes values))) (refused word.RecordLong) (Ok values)) found e in
    let b = unless_back (nat_lt RECORD_LIMIT (length (record_bytes values))) (refused word.RecordLong) (Ok values) found a.1 in
    let le = ltb-false RECORD_LIMIT (length (record_bytes values)) b.0 in
    let is : values ≡ found = cc in
    subst (λ z. (are_of schema z && (is_none (too_long schema z) && nat_le (length (record_bytes z)) RECORD_LIMIT)) ≡ true) is
    (and_from (are_of schema values) (is_none (too_long schema values) && nat_le (length (record_bytes values)) RECORD_LIMIT) of
    (and_from (is_none (too_long schema values)) (nat_le (length (record_bytes values)) RECORD_LIMIT) (ap is_none a.0) (le-leb (length (record_bytes values)) RECORD_LIMIT le)))

check_of : (schema : Schema) (members : Members) (values : Record) → checked schema members ≡ Ok values → fits schema values ≡ true
unfolding checked
check_of schema members values e =
    let a = unless_at_back (missing schema members) (refused_at word.Missing) (unless_at (unknown schema members) (refused_at word.Unknown) (passing (made schema members) (if_short schema))) values e in
    let b = unless_at_back (unknown schema members) (refused_at word.Unknown) (passing (made schema members) (if_short schema)) values a.1 in
    let c = passing_back (made schema members) (if_short schema) values b.1 in
    short_fits schema c.0 values (made_of schema members c.0 c.1) c.2

merge_of : (schema : Schema) (old : Record) (members : Members) (values : Record) → fits schema old ≡ true → merged schema old members ≡ Ok values → fits schema values ≡ true
unfolding merged fits
merge_of [] old members values was e =
    let a = unless_at_back (unknown [] members) (refused_at word.Unknown) (if_short [] old) values e in
    let p = and_parts (are_of [] old) (is_none (too_long [] old) && nat_le (length (record_bytes old)) RECORD_LIMIT) was in
    short_fits [] old values p.0 a.1
merge_of (a ∷ schema) [] members values was e = absurd cc
merge_of (a ∷ schema) (key ∷ old) members values was e =
    let b = unless_at_back (unknown schema members) (refused_at word.Unknown) (passing (behind key (made_over schema old members)) (if_short (a ∷ schema))) values e in
    let c = passing_back (behind key (made_over schema old members)) (if_short (a ∷ schema)) values b.1 in
    let d = behind_back key (made_over schema old members) c.0 c.1 in
    let p = and_parts (are_of (a ∷ schema) (key ∷ old)) (is_none (too_long (a ∷ schema) (key ∷ old)) && nat_le (length (record_bytes (key ∷ old))) RECORD_LIMIT) was in
    let q = and_parts (is_of a.kind key) (are_of schema old) p.0 in
    short_fits (a ∷ schema) c.0 values (are_of_more a schema key d.0 c.0 d.2 q.0 (made_over_of schema old members d.0 q.1 d.1)) c.2

pub check_fits : (schema : Schema) (members : Members) (result : Result Record GraphFault) → Gives result (checked schema members) → IfOk result (λ values. IsTrue (fits schema values))
check_fits schema members (Ok values) h = check_of schema members values h
check_fits schema members (Err f) h = tt

pub merge_fits : (schema : Schema) (old : Record) (members : Members) (result : Result Record GraphFault) → IsTrue (fits schema old) → Gives result (merged schema old members) → IfOk result (λ values. IsTrue (fits schema values))
merge_fits schema old members (Ok values) was h = merge_of schema old members values was h
merge_fits schema old members (Err f) was h = tt

-- what the loops over attributes cite
pub ruleset making = (made_more, made_fails, made_all)

pub ruleset making_over = (over_more, over_fails, over_all, over_none)
