-- Loading one object after another.
use Rattle.farm_node.proofs.Common.{◌≡◌, ℕ, ◌<◌, List, [], ◌∷◌, ◌++◌, length, take, Result, Ok, Err, OnErr, sym, refl, ap, ◌∙◌, subst, arith, append_assoc}
use Rattle.farm_node.proofs.Common.{take-append-le, append-nil, take-length, Addr, Bytes, loaded_cell, NodeState, with_cell, with_objects, CanLoad}

-- what has been loaded of `objects`, and that the rest can be
pub record IsLoading (p : NodeState) (objects : List (Addr × Bytes)) (now : NodeState) (yielded rest : List (Addr × Bytes)) : Type 0 where
  pub can : CanLoad now rest
  pub state : now ≡ with_objects p yielded
  pub stamp : 0 < now.floor
  pub all : objects ≡ yielded ++ rest

pub with_objects_last : (p : NodeState) (xs : List (Addr × Bytes)) (x : Addr × Bytes) → with_objects p (xs ++ x ∷ []) ≡ with_cell x.0 (loaded_cell (with_objects p xs).floor x.1) (with_objects p xs)
with_objects_last p [] x = refl
with_objects_last p (y ∷ ys) x = with_objects_last (with_cell y.0 (loaded_cell p.floor y.1) p) ys x

pub loading_more : (p : NodeState) (objects : List (Addr × Bytes)) (now later : NodeState) (yielded rest : List (Addr × Bytes)) (x : Addr × Bytes) → IsLoading p objects now yielded (x ∷ rest)
    → later ≡ with_cell x.0 (loaded_cell now.floor x.1) now → IsLoading p objects later (yielded ++ x ∷ []) rest
loading_more p objects now later yielded rest x l e = record {
  can = subst (λ (z : NodeState). CanLoad z rest) (sym e) l.can.2;
  state = e ∙ (ap (λ (z : NodeState). with_cell x.0 (loaded_cell z.floor x.1) z) l.state ∙ sym (with_objects_last p yielded x));
  stamp = subst (λ (z : NodeState). 0 < z.floor) (sym e) l.stamp;
  all = rw append_assoc l.all;
}

pub loading_front : (p : NodeState) (objects : List (Addr × Bytes)) (now later : NodeState) (yielded rest : List (Addr × Bytes)) → IsLoading p objects now yielded rest → later ≡ now
    → (k : ℕ) × (later ≡ with_objects p (take k objects))
loading_front p objects now later yielded rest l same =
    (length yielded, same ∙ (l.state ∙ ap (with_objects p) (sym (ap (take (length yielded)) l.all ∙ (take-append-le (length yielded) yielded rest (omega arith) ∙ take-length yielded)))))

pub loading_done : (p : NodeState) (objects : List (Addr × Bytes)) (now : NodeState) (yielded : List (Addr × Bytes)) → IsLoading p objects now yielded [] → now ≡ with_objects p objects
loading_done p objects now yielded l = l.state ∙ ap (with_objects p) (sym (l.all ∙ append-nil yielded))

-- what holds holds after an error
pub on_err : {T E : Type 0} (r : Result T E) (P : Type 0) → P → OnErr r P
on_err (Ok x) P p = tt
on_err (Err e) P p = p
