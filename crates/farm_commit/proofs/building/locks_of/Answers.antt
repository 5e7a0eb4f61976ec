use Rattle.std.proofs.Common.{◌≡◌, ℕ, ◌+◌, List, [], ◌∷◌, ◌++◌, length, sym, ap, ◌∙◌, subst, arith, length-append}
use Rattle.farm_commit.specs.Nodes.{Lock}
use Rattle.node_turns.specs.Standing.{Began, CanBegin}
use Rattle.farm_commit.specs.Building.{Loaded, AreApart, ArePlaces, part_of}
use Rattle.farm_commit.proofs.Making.{apart_left, can_begin, loaded_more, part_left, places_left}
use Rattle.farm_commit.proofs.building.locks_of.Goals as goal

pub new-requires-clause-objects : goal.new-requires-clause-objects
new-requires-clause-objects c =
    let v = c.loop-node.invariant in
    subst (λ (xs : List Loaded). CanBegin c.loop-node.node c.args.nodes c.args.actors c.args.stamp xs) (sym c.in_ok-objects.ensures.part)
    (can_begin c.args.nodes c.loop-node.node c.args.actors c.args.stamp c.loop-node.rest.items c.loop-node-test.true v.places v.apart)

pub loop-node-preserved : goal.loop-node-preserved
loop-node-preserved c =
    let v = c.loop-node.invariant in
    let nodes = c.args.nodes in
    let n = c.loop-node.node in
    let rest = c.loop-node.rest.items in
    let locks = c.loop-node.locks.items in
    let others = c.in_ok-objects.ensures.others in
    let pushed = c.in_ok-push_lock.ensures.lock in
    let count : length locks ≡ n = v.count in
    let one_more : length (locks ++ pushed.0 ∷ []) ≡ length locks + 1 = length-append locks (pushed.0 ∷ []) in
    record {
      places = subst (λ (xs : List Loaded). ArePlaces nodes xs) (sym others) (places_left nodes n rest v.places);
      apart = subst (λ (xs : List Loaded). AreApart xs) (sym others) (apart_left nodes n rest v.apart);
      left = λ j le. ap (part_of nodes j) others ∙ (part_left nodes n j (λ (e : j ≡ n). omega arith) rest ∙ v.left j (omega arith));
      count = ap (length {A = Lock}) pushed.1 ∙ (one_more ∙ ap (λ (k : ℕ). k + 1) count);
      loaded = loaded_more locks c.push_lock.new.locks.items nodes c.args.actors c.args.stamp c.args.heap.items c.in_ok-objects.objects.items
          c.in_ok-standing.standing pushed
          (subst (λ (k : ℕ). Began c.in_ok-standing.standing k nodes c.args.actors c.args.stamp c.in_ok-objects.objects.items) (sym count) c.in_ok-standing.ensures.began)
          (c.in_ok-objects.ensures.part ∙ (v.left n (omega arith) ∙ ap (λ (k : ℕ). part_of nodes k c.args.heap.items) (sym count))) v.loaded;
      passes = c.in_ok-push_lock.ensures.passes v.passes;
      parts = c.in_ok-push_lock.ensures.parts;
    }
