-- Collecting at one address after another.
use Rattle.farm_node.proofs.Common.{◌≡◌, ℕ, ◌+◌, max, cond, true, false, List, Option, Some, None, is_some, sym, refl, ap}
use Rattle.farm_node.proofs.Common.{◌∙◌, subst, cond-false, length, is_gone, Addr, Occupancy}
use Rattle.farm_node.proofs.Common.{without_place, cut, Cell, goes, collected, past_collected, versions_in, set_cell, plain_from, AgreesWith}
use Rattle.farm_node.proofs.Common.{goes_there, bound_there, SweepsCell, SweepsNext, past_with}
use Rattle.farm_node.specs.declared.swept.Swept.{Swept}
use Rattle.farm_node.proofs.Addresses.{set_self}
use Rattle.farm_node.proofs.CellMaps.{agrees_set, agrees_without}

pub agrees_swept : (cells cells' : Addr → Option Cell) (places places' : Occupancy) (a : Addr) (floor : ℕ) (swept : Swept) → AgreesWith cells places
    → cells' ≡ set_cell a (collected floor (cells a)) cells → SweepsCell floor (cells a) swept → places' ≡ cond (is_some swept.gone) (without_place a places) places → AgreesWith cells' places'
agrees_swept cells cells' places places' a floor swept agrees e sweeps given =
    at (cells a) refl (given ∙ ap (λ (g : Option ℕ). cond (is_some g) (without_place a places) places) sweeps.gone) e where
      kept : (c : Option Cell) → is_some c ≡ is_some (cells a) → places' ≡ places → cells' ≡ set_cell a c cells → AgreesWith cells' places'
      kept c same given e = subst (AgreesWith cells') (sym given) (agrees_set cells cells' places a c agrees e same)

      at : (c : Option Cell) → c ≡ cells a → places' ≡ cond (is_some (cond (goes_there floor c) (Some (bound_there c)) None)) (without_place a places) places
          → cells' ≡ set_cell a (collected floor c) cells → AgreesWith cells' places'
      at None there given e = kept None (ap is_some there) given e
      at (Some c) there given e =
          elim (goes floor c) as (λ g. places' ≡ cond (is_some (cond g (Some c.bound) None)) (without_place a places) places
          → cells' ≡ set_cell a (cond g None (Some (record c { versions = cut floor c.versions }))) cells → AgreesWith cells' places')
          [ true ↦ λ given e. agrees_without cells cells' places places' a agrees e given | false ↦ λ given e. kept _ (ap is_some there) given e ] given e

-- the places given back keep their regions
given_regions : (a : Addr) (places : Occupancy) (gone : Option ℕ) → cond (is_some gone) (without_place a places) places ≡ record places { taken = (cond (is_some gone) (without_place a places) places).taken }
given_regions a places None = refl
given_regions a places (Some b) = refl

past_gone : (floor : ℕ) (c : Option Cell) (past : ℕ) → past_with (cond (goes_there floor c) (Some (bound_there c)) None) past ≡ past_collected floor c past
past_gone floor None past = refl
past_gone floor (Some c) past = elim (goes floor c) as (λ g. past_with (cond g (Some c.bound) None) past ≡ cond g (max c.bound past) past) [ true ↦ refl | false ↦ refl ]

pub some_gone : (floor : ℕ) (c : Option Cell) (swept : Swept) → SweepsCell floor c swept → is_some swept.gone ≡ goes_there floor c
some_gone floor c swept sweeps = ap is_some sweeps.gone ∙ (elim (goes_there floor c) as (λ g. is_some (cond g (Some (bound_there c)) None) ≡ g) [ true ↦ refl | false ↦ refl ])

module _ (cells cells' : Addr → Option Cell) (places places' : Occupancy) (pins : List (Option ℕ)) (past past' below actors : ℕ) where
  pub sweeps_next : (a : Addr) (floor : ℕ) (swept : Swept) → cells' ≡ set_cell a (collected floor (cells a)) cells → SweepsCell floor (cells a) swept
      → places' ≡ cond (is_some swept.gone) (without_place a places) places → past' ≡ past_with swept.gone past
      → SweepsNext floor (plain_from cells places pins past below actors) (Some swept) (plain_from cells' places' pins past' below actors)
  sweeps_next a floor swept e sweeps given rose =
      let same : places' ≡ record places { taken = (cond (is_some swept.gone) (without_place a places) places).taken } = given ∙ given_regions a places swept.gone in
      let past_is : past' ≡ past_collected floor (cells a) past = rose ∙ (ap (λ (g : Option ℕ). past_with g past) sweeps.gone ∙ past_gone floor (cells a) past) in
      let here : cells' a ≡ collected floor (cells a) = ap (λ (cells : Addr → Option Cell). cells a) e ∙ set_self a (collected floor (cells a)) cells in (
        a,
        (λ i. record (plain_from (e i) places pins (past_is i) below actors) { regions = (same i).regions; node = (same i).node; nodes = (same i).nodes }),
        ap (λ (c : Option Cell). swept.versions + versions_in c) here ∙ sweeps.versions,
        some_gone floor (cells a) swept sweeps,
      )

-- an object that stays
pub sweeps_cut : (floor : ℕ) (c w : Cell) (n : ℕ) (o : Option Cell) → Some c ≡ o → goes_there floor o ≡ false → w ≡ record c { versions = cut floor c.versions }
    → n + length w.versions ≡ length c.versions → is_gone floor c.versions ≡ goes floor c → SweepsCell floor o (record { versions = n; gone = None })
sweeps_cut floor c w n o there stays is removed whole =
    let here : goes floor c ≡ false = ap (goes_there floor) there ∙ stays in
    subst (λ (o : Option Cell). SweepsCell floor o (record { versions = n; gone = None })) there record {
      versions = ap (λ (o : Option Cell). n + versions_in o) (cond-false (goes floor c) None (Some (record c { versions = cut floor c.versions })) here)
          ∙ (ap (λ (x : Cell). n + length x.versions) (sym is) ∙ removed);
      gone = sym (cond-false (goes floor c) (Some c.bound) None here);
      whole = whole;
    }
