-- One entry more at the end of a list, and loaded objects as those of a start.
use Rattle.farm_node.proofs.Common.{◌≡◌, List, [], ◌∷◌, ◌++◌, sym, refl, ap, ◌∙◌, subst, Addr, Start, Entry, Made, Bytes, NodeState, Fits, after, Adds, begun}
use Rattle.farm_node.proofs.Common.{Loads, IsStart, replay_from, LawfulFrom, with_objects, CanLoad, plain_of, StandsFor}
use Rattle.farm_node.specs.declared.node.Node.{Node}
use Rattle.farm_node.specs.Standing.{with_heap, ListsGoOn}
use Rattle.farm_node.proofs.Stories.{replay_append}

lawful_last : (p : NodeState) (es : List Entry) (e : Entry) → LawfulFrom p es → Fits (replay_from p es) e → LawfulFrom p (es ++ e ∷ [])
lawful_last p [] e lawful fits = (fits, tt)
lawful_last p (d ∷ ds) e lawful fits = (lawful.0, lawful_last (after p d) ds e lawful.1 fits)

more : (old new : Node) (log : List Entry) (e : Entry) → StandsFor old log → Adds (plain_of old) e (plain_of new) → StandsFor new (log ++ e ∷ [])
more old new [] e s adds = absurd s.lawful
more old new (Made m ∷ es) e s adds = record {
  lawful = (s.lawful.0, lawful_last (begun m) es e s.lawful.1 (subst (λ (p : NodeState). Fits p e) s.state adds.fits));
  state = adds.state ∙ (ap (λ (p : NodeState). after p e) s.state ∙ sym (replay_append (begun m) es (e ∷ [])));
}
more old new (d ∷ es) e s adds = absurd s.lawful

loads_still : (m : Start) (heap xs : List (Addr × Bytes)) → Loads m xs → Loads (record m { heap = heap }) xs
loads_still m heap [] loads = tt
loads_still m heap (x ∷ xs) loads = (loads.0, loads.1, loads_still m heap xs loads.2)

begins_loaded : (m : Start) (objects : List (Addr × Bytes)) → IsStart m → CanLoad (begun m) objects → IsStart (with_heap m objects)
begins_loaded m [] begins can = begins
begins_loaded m (x ∷ xs) begins can =
    begins_loaded (record m { heap = x ∷ m.heap }) xs (begins.0, begins.1, begins.2, begins.3, (can.0, can.1, loads_still m (x ∷ m.heap) m.heap begins.4)) can.2

begun_loaded : (m : Start) (objects : List (Addr × Bytes)) → with_objects (begun m) objects ≡ begun (with_heap m objects)
begun_loaded m [] = refl
begun_loaded m (x ∷ xs) = begun_loaded (record m { heap = x ∷ m.heap }) xs

pub loads : (old new : Node) (m : Start) (objects : List (Addr × Bytes)) → StandsFor old (Made m ∷ []) → CanLoad (plain_of old) objects → plain_of new ≡ with_objects (plain_of old) objects
    → StandsFor new (Made (with_heap m objects) ∷ [])
loads old new m objects s can state = record {
  lawful = (begins_loaded m objects s.lawful.0 (subst (λ (p : NodeState). CanLoad p objects) s.state can), tt);
  state = state ∙ (ap (λ (p : NodeState). with_objects p objects) s.state ∙ begun_loaded m objects);
}

pub stand : ListsGoOn
stand = record { more = more; loads = loads }
