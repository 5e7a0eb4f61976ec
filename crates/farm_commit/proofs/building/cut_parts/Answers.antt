use Rattle.std.proofs.Common.{◌≡◌, ℕ, ◌+◌, ◌-◌, ◌<◌, ◌≤◌, List, [], ◌∷◌, ◌++◌, Some, length, take, slice_get, slice_index_or, refl, sym, ap, ◌∙◌, subst, arith}
use Rattle.std.proofs.lemmas.List.{take_more}
use Rattle.std.proofs.lemmas.Option.{same_Some, slice_get-get_or, slice_get_read}
use Rattle.turnstile.specs.Entries.{up_to}
use Rattle.transaction_part.specs.declared.part.Part.{Part}
use Rattle.farm_commit.specs.Nodes.{Lock}
use Rattle.farm_commit.specs.Making.{AreFresh, IsCut, IsFresh}
use Rattle.farm_commit.proofs.Rows.{each_more, each_none, each_set, each_weaker}
use Rattle.farm_commit.proofs.building.cut_parts.Goals as goal

pub loop-node-init : goal.loop-node-init
loop-node-init c = record {
  within = omega arith;
  own = each_none (λ _ l p. IsFresh l (c.args.number ∷ []) p) [] c.new-own.result.items refl c.new-own.ensures.items;
  rest = each_weaker (λ _ l p. IsFresh l (up_to c.args.number) p) (IsCut 0 c.args.number) c.args.locks.now c.args.rest.now c.requires.rest
      (λ i l p low f. record { done = λ none. absurd (omega arith); left = λ all. f });
}

pub cut_part-requires-clause-rest : goal.cut_part-requires-clause-rest
cut_part-requires-clause-rest c =
    let ls : List Lock = c.args.locks.now in
    let n : ℕ = c.loop-node.node in
    let low : n < length ls = c.loop-node-test.true in
    let same : length c.loop-node.rest ≡ length ls = c.loop-node.invariant.rest.count in
    (c.loop-node.invariant.rest.each n c.index-locks-node.result (slice_index_or c.loop-node.rest n c.index-rest-node.result)
    (slice_get_read ls (length ls) n c.index-locks-node.result refl low c.index-locks-node.is)
    (slice_get-get_or c.loop-node.rest n c.index-rest-node.result (omega arith))).left (omega arith)

pub loop-node-preserved : goal.loop-node-preserved
loop-node-preserved c =
    let ls : List Lock = c.args.locks.now in
    let n : ℕ = c.loop-node.node in
    let k : ℕ = c.args.number in
    let l : Lock = c.index-locks-node.result in
    let v = c.loop-node.invariant in
    let low : n < length ls = c.loop-node-test.true in
    let at : slice_get ls n ≡ Some l = slice_get_read ls (length ls) n l refl low c.index-locks-node.is in
    let front : take (n + 1) ls ≡ take n ls ++ l ∷ [] =
    take_more ls n l low ∙ ap (λ (m : Lock). take n ls ++ m ∷ []) (sym c.index-locks-node.is) in
    record {
      within = omega arith;
      own = subst (λ (ms : List Lock). AreFresh ms (k ∷ []) c.push.new.self.items) (sym front)
          (subst (λ (ps : List Part). AreFresh (take n ls ++ l ∷ []) (k ∷ []) ps) (sym c.in_ok-push.ensures.items)
          (each_more (λ _ m p. IsFresh m (k ∷ []) p) (take n ls) c.loop-node.own.items l c.cut_part.result c.cut_part.ensures.own v.own));
      rest = each_set (IsCut n k) (IsCut (n + 1) k) ls c.loop-node.rest v.rest n c.cut_part.new.rest
          (λ i m p other f. record {
            done = λ (before : i < n + 1). f.done (omega (arith, other, before));
            left = λ (past : n + 1 ≤ i). f.left (omega (arith, past));
          })
          (λ m there. record {
            done = λ before two. subst (λ (z : Lock). IsFresh z (up_to (k - 1)) c.cut_part.new.rest) (same_Some l m (sym at ∙ there))
                (c.cut_part.ensures.rest two);
            left = λ (past : n + 1 ≤ n). absurd (omega (arith, past));
          });
    }

pub returns-clause-rest : goal.returns-clause-rest
returns-clause-rest c two =
    let all : length c.args.locks.now ≤ c.loop-node.node = c.loop-node-test.false in
    each_weaker (IsCut c.loop-node.node c.args.number) (λ _ l p. IsFresh l (up_to (c.args.number - 1)) p) c.args.locks.now c.loop-node.rest
    c.loop-node.invariant.rest (λ i l p low f. f.done (omega (arith, low, all)) two)
