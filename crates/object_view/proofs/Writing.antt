-- What one more write does to a view.
use Rattle.std.proofs.Common.{◌≡◌, inl, inr, ℕ, Bool, true, false, cond, List, Option, Some, None, refl, ap, sym, subst, ◌∙◌}
use Rattle.a1_base.specs.declared.place.Addr.{Addr}
use Rattle.object_view.specs.Agreement.{Seen, Write, Heap, Overlay, Agrees, is_made, same_addr, bytes_of, covered, stood}
use Rattle.object_view.specs.Calls.{written_at}
use Rattle.object_view.specs.Parts.{with_bytes}
use Rattle.object_view.proofs.Addresses.{same_or, same_itself}
use Rattle.object_view.proofs.Agreed.{bytes_back}
use Rattle.object_view.proofs.Looking.{same_agrees}

cover : (t : Bool) (w : Write) (o : Option Write) (h : Heap) (a : Addr)
    → bytes_of (covered (cond t (Some w) o) (h a)) ≡ cond t w.bytes (bytes_of (covered o (h a)))
cover true w o h a = bytes_back 0 w.bytes
cover false w o h a = refl

pub write_stood : (h : Heap) (old new : Overlay) (a : Addr) (made : Bool) (bytes : Option (List ℕ))
    → new ≡ written_at a made bytes old
    → stood h new ≡ with_bytes a bytes (stood h old)
write_stood h old new a made bytes e = ap (stood h) e
    ∙ (λ i b. cover (same_addr a b) (record { made = made; bytes = bytes }) (old b) h b i)

-- an agreeing heap leaves the room that was made before
room_before : (h : Heap) (old : Overlay) (a : Addr) (made : Bool) (bytes : Option (List ℕ))
    → (is_made (old a) ≡ true → made ≡ true)
    → ((b : Addr) → is_made (written_at a made bytes old b) ≡ true → h b ≡ None) → (b : Addr)
    → is_made (old b) ≡ true → h b ≡ None
room_before h old a made bytes stays room b m =
    let cased = λ (t : Bool). is_made (cond t (Some (record { made = made; bytes = bytes })) (old b)) in
    elim (same_or a b) [
      | inl s ↦ room b (ap cased s.0 ∙ stays (subst (λ (x : Addr). is_made (old x) ≡ true) (sym s.1) m))
      | inr f ↦ room b (ap cased f ∙ m)
    ]

pub write_agrees : (h : Heap) (trace later : List Seen) (old new : Overlay) (a : Addr) (bytes : Option (List ℕ))
    → later ≡ trace
    → new ≡ written_at a (is_made (old a)) bytes old → Agrees h later new → Agrees h trace old
write_agrees h trace later old new a bytes same e agrees =
    let back : Agrees h trace (written_at a (is_made (old a)) bytes old) = same_agrees h (trace) later
    (written_at a (is_made (old a)) bytes old) new same e agrees in
    record { seen = back.seen; room = room_before h old a (is_made (old a)) bytes (λ m. m) back.room }

pub make_agrees : (h : Heap) (trace later : List Seen) (old new : Overlay) (a : Addr) (bytes : Option (List ℕ))
    → later ≡ trace
    → new ≡ written_at a true bytes old → Agrees h later new → Agrees h trace old
make_agrees h trace later old new a bytes same e agrees =
    let back : Agrees h trace (written_at a true bytes old) = same_agrees h trace later
    (written_at a true bytes old) new same e agrees in
    record { seen = back.seen; room = room_before h old a true bytes (λ m. refl) back.room }

pub make_fresh : (h : Heap) (later : List Seen) (old new : Overlay) (a : Addr) (bytes : Option (List ℕ)) → old a ≡ None
    → new ≡ written_at a true bytes old → Agrees h later new → stood h old a ≡ None
make_fresh h later old new a bytes none e agrees =
    let made : is_made (new a) ≡ true = ap (λ (o : Overlay). is_made (o a)) e
    ∙ ap (λ (t : Bool). is_made (cond t (Some (record { made = true; bytes = bytes })) (old a))) (same_itself a) in
    rw (none, agrees.room a made) refl

pub ruleset write_rules = (write_stood, write_agrees, same_agrees)

pub ruleset make_rules = (write_stood, make_agrees, make_fresh, same_agrees)
