-- Ordered places, each with a content or empty, and the way back to what stood in them.
use Rattle.std.specs.Prelude.{◌≡◌, List, [], ◌∷◌, true, Option, is_some, option_map}
use Rattle.std.specs.List.{filter_map, AllByRecursion}
use Rattle.std.specs.declared.cmp.Ordering.{Ordering}
use Rattle.std.specs.BTreeMap.{is_at}
use Rattle.std.specs.Map.{keys_of, set_value}
use Rattle.a1_base.specs.Maps.{at, IsOrdered}

-- the entries as they stand, and as they stood when they were last kept
pub record Kept (K X : Type 0) : Type 0 where
  pub now : List (K × X)
  pub was : List (K × X)

module _ {K X : Type 0} where
  -- the entry of a place that is not empty
  abbrev pub filled : K × Option X → Option (K × X)
  filled place = option_map (λ x. (place.0, x)) place.1

  -- what stands in the places, in their order
  abbrev pub kept : List (K × Option X) → List (K × X)
  kept places = filter_map filled places

  module _ (order : K → K → Ordering) where
    -- the places with this content at k
    abbrev pub set_at : K → Option X → List (K × Option X) → List (K × Option X)
    set_at k content places = set_value (is_at (order k)) places content

    -- the places as they were before the changes of the trail, of which the last is undone first
    abbrev pub led_back : List (K × Option X) → List (K × Option X) → List (K × Option X)
    led_back [] places = places
    led_back (u ∷ trail) places = set_at u.0 u.1 (led_back trail places)

    -- each key of the trail has a place
    abbrev pub ArePlaced : List (K × Option X) → List (K × Option X) → Type 0
    ArePlaced [] places = Unit {0}
    ArePlaced (u ∷ trail) places = (is_some (at order u.0 places) ≡ true) × ArePlaced trail places

    -- what holds of the places and their trail
    pub record AreSound (IsSound : K → Type 0) (trail places : List (K × Option X)) : Type 0 where
      pub ordered : IsOrdered order places
      pub placed : ArePlaced trail places
      pub sound : AllByRecursion IsSound (keys_of places)
