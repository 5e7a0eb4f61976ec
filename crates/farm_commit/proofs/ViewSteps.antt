-- What one changed part makes of a transaction's parts, reads and writes.
use Rattle.std.proofs.Common.{◌≡◌, ◌⊎◌, ℕ, zero, suc, ◌+◌, ◌*◌, ◌%◌, ◌<◌, true, false, List, [], ◌∷◌, ◌++◌, Option, Some, None, Result, Ok, Err, IfOk, OnOk, OnErr, length, get_or, slice_get, slice_set, sym, refl, ap, ◌∙◌, subst, inl, inr, arith, IsSome}
use Rattle.std.proofs.Math.Nat.{add-mul-mod_self_right, mod-eq_of_lt, mod-lt}
use Rattle.std.proofs.Math.Seq.{map-set_same}
use Rattle.std.proofs.lemmas.Bool.{cond_both, cond-true}
use Rattle.std.proofs.lemmas.List.{get_or-map, map-set}
use Rattle.std.proofs.lemmas.Option.{none-some, same_Some, get_or_from_slice_get, slice_get_within, slice_get-get_or, slice_get_read}
use Rattle.std.specs.Global.{Vec}
use Rattle.std.specs.Vec.{with_item}
use Rattle.a1_base.specs.declared.place.Addr.{Addr}
use Rattle.a1_base.specs.Lists.{BeginsWith, IsAmong}
use Rattle.object_region.specs.Occupancy.{IsPlace, same_addr}
use Rattle.farm_node.specs.declared.faults.PlaceFault.{PlaceFault}
use Rattle.farm_node.specs.declared.entry.Found.{Found}
use Rattle.farm_node.specs.Cell.{Bytes}
use Rattle.farm_node.specs.NodeState.{occupancy, replay}
use Rattle.farm_node.specs.Owned.{WasRead}
use Rattle.farm_node.proofs.Addresses.{addr_eq, same_self}
use Rattle.write_set.proofs.Keyed.{writes_apart}
use Rattle.write_set.proofs.Lists.{at_set}
use Rattle.write_set.specs.declared.set.Write.{Write}
use Rattle.write_set.specs.Writes.{AreApart, Lacks, Overwrites, StandsAt}
use Rattle.transaction_part.specs.declared.part.Part.{Part}
use Rattle.transaction_part.specs.declared.part.Seen.{Seen}
use Rattle.transaction_part.specs.Part.{IsRunning, IsWritten, MayWrite, SitsAt, log, log_in, written}
use Rattle.transaction_part.specs.Stories.{SamePuts}
use Rattle.transaction_part.proofs.Lists.{among_at}
use Rattle.transaction_part.proofs.Telling.{begins_same, grown_kept, read_grown}
use Rattle.farm_commit.specs.Commits.{PutsNone}
use Rattle.farm_commit.specs.declared.farm.Farm.{Farm}
use Rattle.farm_commit.specs.declared.actor.Open.{Open}
use Rattle.farm_commit.specs.Farms.{AreRead, IsOpenOf, IsPart, id_of}
use Rattle.farm_commit.specs.Nodes.{Lock, home}
use Rattle.farm_commit.specs.Parts.{EachStep}
use Rattle.farm_commit.specs.Views.{MayWriteAt, Rewrites, overlay, rows, write_at}
use Rattle.farm_commit.proofs.Stepping.{last_here, parts_then}

-- an address that is lacking has no write
pub lacks_none : (ws : List Write) (a : Addr) → Lacks ws a → write_at ws a ≡ None
lacks_none [] a lacks = refl
lacks_none (w ∷ ws) a lacks = cond_both (same_addr w.at a) (Some w) (write_at ws a) (λ (o : Option Write). o ≡ None)
    (λ same. absurd (lacks.0 (addr_eq w.at a same))) (λ _. lacks_none ws a lacks.1)

found_same : (w : Write) (a : Addr) → w.at ≡ a → same_addr w.at a ≡ true
found_same w a is = subst (λ (b : Addr). same_addr w.at b ≡ true) is (same_self w.at)

-- and one that has none is lacking
pub none_lacks : (ws : List Write) (a : Addr) → write_at ws a ≡ None → Lacks ws a
none_lacks [] a none = tt
none_lacks (w ∷ ws) a none = (
  (λ (is : w.at ≡ a). none-some w (sym none ∙ cond-true (same_addr w.at a) (Some w) (write_at ws a) (found_same w a is))),
  none_lacks ws a (cond_both (same_addr w.at a) (Some w) (write_at ws a) (λ (o : Option Write). o ≡ None → write_at ws a ≡ None)
      (λ _ is. absurd (none-some w (sym is))) (λ _ is. is) none),
)

-- where a write of it stands, it is that one
stands_some : (ws : List Write) (a : Addr) (i : ℕ) (w : Write) → AreApart ws → slice_get ws i ≡ Some w → w.at ≡ a → write_at ws a ≡ Some w
stands_some [] a i w apart there at = absurd (none-some w there)
stands_some (x ∷ xs) a zero w apart there at =
    let is : x.at ≡ a = ap (λ (z : Write). z.at) (same_Some x w there) ∙ at in
    cond-true (same_addr x.at a) (Some x) (write_at xs a) (found_same x a is) ∙ there
stands_some (x ∷ xs) a (suc i) w apart there at =
    let behind : AreApart xs = λ j k v u p q e. (let s : suc j ≡ suc k = apart (suc j) (suc k) v u p q e in omega (arith, s)) in
    cond_both (same_addr x.at a) (Some x) (write_at xs a) (λ (o : Option Write). o ≡ Some w)
    (λ same. let bad : zero ≡ suc i = apart zero (suc i) x w refl there (addr_eq x.at a same ∙ sym at) in absurd (omega (arith, bad)))
    (λ _. stands_some xs a i w behind there at)

-- what stands in a list with one item more, or with another in a place
among_pushed : {A : Type 0} (xs : List A) (x y : A) → IsAmong y (xs ++ x ∷ []) → IsAmong y xs ⊎ (x ≡ y)
among_pushed [] x y there = elim there [ inl is ↦ inr is | inr none ↦ absurd none ]
among_pushed (z ∷ zs) x y there = elim there [
  | inl is ↦ inl (inl is)
  | inr more ↦ elim (among_pushed zs x y more) [ inl before ↦ inl (inr before) | inr last ↦ inr last ]
]

among_set : {A : Type 0} (xs : List A) (i : ℕ) (x y : A) → IsAmong y (slice_set xs i x) → IsAmong y xs ⊎ (x ≡ y)
among_set [] i x y there = absurd there
among_set (z ∷ zs) zero x y there = elim there [ inl is ↦ inr is | inr more ↦ inl (inr more) ]
among_set (z ∷ zs) (suc i) x y there = elim there [
  | inl is ↦ inl (inl is)
  | inr more ↦ elim (among_set zs i x y more) [ inl before ↦ inl (inr before) | inr last ↦ inr last ]
]

-- reads stay while lists go on
reads_kept : (locks : List Lock) (k r nodes : ℕ) (l : Lock) (old new : List Part) (reads : List Seen) → length old ≡ length locks
    → EachStep locks (λ _ _ p q. BeginsWith (log q) (log p)) old new → AreRead k r nodes old reads → AreRead k r nodes new reads
reads_kept locks k r nodes l old new reads count step were s q there at =
    let within : home nodes s.at < length new = slice_get_within new (home nodes s.at) q at in
    let same : length new ≡ length old = step.count in
    let p : Part = get_or old (home nodes s.at) q in
    let was : slice_get old (home nodes s.at) ≡ Some p = slice_get-get_or old (home nodes s.at) q (omega (arith, within, same)) in
    let lock : slice_get locks (home nodes s.at) ≡ Some (get_or locks (home nodes s.at) l) =
    slice_get-get_or locks (home nodes s.at) l (omega (arith, within, same, count)) in
    grown_kept (read_grown k s.at r s.found.value (log p) (log q) (step.each (home nodes s.at) (get_or locks (home nodes s.at) l) p q lock was at))
    (were s p there was)

-- and one more may come, which an own entry answered
pub reads_more : (k r nodes n : ℕ) (parts : List Part) (q : Part) (reads all : List Seen) (s : Seen) → home nodes s.at ≡ n
    → slice_get parts n ≡ Some q → WasRead k s.at r s.found.value (log q) → all ≡ reads ++ s ∷ []
    → AreRead k r nodes parts reads → AreRead k r nodes parts all
reads_more k r nodes n parts q reads all s home_is at was is were x u there here =
    elim (among_pushed reads s x (subst (λ (xs : List Seen). IsAmong x xs) is there)) [
      | inl before ↦ were x u before here
      | inr last ↦ subst (λ (y : Seen). slice_get parts (home nodes y.at) ≡ Some u → ∥ WasRead k y.at r y.found.value (log u) ∥₁) last
          (λ (e : slice_get parts (home nodes s.at) ≡ Some u).
          let same : q ≡ u = same_Some q u (sym at ∙ (sym (ap (slice_get parts) home_is) ∙ e)) in
          ∣ subst (λ (z : Part). WasRead k s.at r s.found.value (log z)) same was ∣₁)
          here
    ]

-- the writes of a node
row_is : (n : ℕ) (p : Part) (old : List Part) → slice_get old n ≡ Some p → get_or (rows old) n [] ≡ written p
row_is n p old at = get_or-map written old n p [] (slice_get_within old n p at) ∙ ap written (get_or_from_slice_get old n p p at)

-- what will be written is the same over all nodes where it is at the one that changed
pub rows_same : (old : List Part) (n : ℕ) (p q : Part) → p ≡ get_or old n p → written q ≡ written p → rows (slice_set old n q) ≡ rows old
rows_same old n p q part same = map-set_same written old n q p (same ∙ ap written part)

-- an address is of a node of the farm
pub home_low : (farm : Farm) (a : Addr) (n : ℕ) → n ≡ home farm.nodes a → n < farm.nodes
home_low farm a n is = subst (λ (i : ℕ). i < farm.nodes) (sym is) (mod-lt a.region farm.some_node)

module _ (farm : Farm) (txn : Open) (opens : IsOpenOf farm txn) where
  part_read : (n : ℕ) (p : Part) → n < farm.nodes → p ≡ get_or txn.parts.items n p → slice_get txn.parts.items n ≡ Some p
  part_read n p low part = slice_get_read txn.parts.items farm.nodes n p (sym (opens.parts.count ∙ farm.counted)) low part

  module _ (a : Addr) (n : ℕ) (home_is : n ≡ home farm.nodes a) (p : Part) (part : p ≡ get_or txn.parts.items n p) where
    -- the write of an address is among those of its node,
    pub overlay_is : overlay farm.nodes (rows txn.parts.items) a ≡ write_at (written p) a
    overlay_is = ap (λ (ws : List Write). write_at ws a) (ap (λ (i : ℕ). get_or (rows txn.parts.items) i []) (sym home_is)
        ∙ row_is n p txn.parts.items (part_read n p (home_low farm a n home_is) part))

    -- and it is the one that stands there
    pub overlay_stands : (q : Part) → q ≡ get_or txn.parts.items n q → (i : ℕ) (w : Write) → StandsAt (written p) i a
        → slice_get (written q) i ≡ Some w → overlay farm.nodes (rows txn.parts.items) a ≡ Some w
    overlay_stands q again i w stands there =
        let low : n < farm.nodes = home_low farm a n home_is in
        let same : q ≡ p = same_Some q p (sym (part_read n q low again) ∙ part_read n p low part) in
        let here : slice_get (written p) i ≡ Some w = subst (λ (x : Part). slice_get (written x) i ≡ Some w) same there in
        overlay_is ∙ stands_some (written p) a i w (writes_apart p.writes) here
        (ap (λ (z : Write). z.at) (same_Some w stands.0 (sym here ∙ stands.1)) ∙ stands.2)

-- one part changed: at the node n, which has the lock l, from p to q
module _ (farm : Farm) (txn : Open) (opens : IsOpenOf farm txn) (n : ℕ) (low : n < farm.nodes) (l : Lock) (p : Part)
    (lock : l ≡ get_or farm.locks.items n l) (part : p ≡ get_or txn.parts.items n p) where
  abbrev Is : ℕ → Lock → Part → Type 0
  Is = IsPart (id_of txn) txn.read_stamp farm.nodes

  lock_there : slice_get farm.locks.items n ≡ Some l
  lock_there = slice_get_read farm.locks.items farm.nodes n l (sym farm.counted) low lock

  -- the part is there,
  pub part_there : slice_get txn.parts.items n ≡ Some p
  part_there = part_read farm txn opens n p low part

  -- and ran
  pub part_here : IsPart (id_of txn) txn.read_stamp farm.nodes n l p
  part_here = opens.parts.each n l p lock_there part_there

  -- the places of the node that it sits at have their home there
  home_placed : (q : Part) (a : Addr) → SitsAt l txn.number q → IsPlace (occupancy (replay (log q))) a → home farm.nodes a ≡ n
  home_placed q a sits place =
      let is : ((replay (log q)).node ≡ n) × ((replay (log q)).nodes ≡ farm.nodes) =
      subst (λ (x : Option _). ((replay (log_in x)).node ≡ n) × ((replay (log_in x)).nodes ≡ farm.nodes)) (sym sits.1)
      (sits.2.node.node ∙ (farm.numbered n l lock_there).0, sits.2.node.nodes ∙ (farm.numbered n l lock_there).1) in
      let k : ℕ = place.0.0 in
      let region : a.region ≡ (replay (log q)).node + k * (replay (log q)).nodes = place.0.2 in
      ap (λ (x : ℕ). x % farm.nodes) (region ∙ (ap (λ (x : ℕ). x + k * (replay (log q)).nodes) is.0 ∙ ap (λ (x : ℕ). n + k * x) is.1))
      ∙ (add-mul-mod_self_right n k farm.nodes ∙ mod-eq_of_lt low)

  module _ (q : Part) where
    abbrev new : List Part
    new = slice_set txn.parts.items n q

    -- that part is there
    pub part_set : slice_get (slice_set txn.parts.items n q) n ≡ Some q
    part_set = at_set txn.parts.items n q (slice_get_within txn.parts.items n p part_there)

    one_step : (Q : ℕ → Lock → Part → Part → Type 0) → Q n l p q → ((i : ℕ) (k : Lock) (x : Part) → Is i k x → Q i k x x)
        → EachStep farm.locks.items Q txn.parts.items new
    one_step Q step stay = last_here farm.locks.items Is Q txn.parts.items txn.parts.items farm.nodes n l p farm.counted low lock part opens.parts
        record {
          count = refl;
          done = λ i k x y under at was later. subst (Q i k x) (same_Some x y (sym was ∙ later)) (stay i k x (opens.parts.each i k x at was));
          rest = λ i above. refl;
        } q step (λ i k x at was is. stay i k x is)

    -- reads stay where its list goes on
    pub reads_set : (reads : List Seen) → BeginsWith (log q) (log p) → AreRead txn.number txn.read_stamp farm.nodes txn.parts.items reads
        → AreRead txn.number txn.read_stamp farm.nodes (slice_set txn.parts.items n q) reads
    reads_set reads grown = reads_kept farm.locks.items txn.number txn.read_stamp farm.nodes l txn.parts.items new reads opens.parts.count
        (one_step (λ _ _ x y. BeginsWith (log y) (log x)) grown (λ i k x was. begins_same (log x)))

    -- a transaction with that part and such reads is one of the farm
    pub open_set : (reads : Vec Seen) → IsPart (id_of txn) txn.read_stamp farm.nodes n l q
        → AreRead txn.number txn.read_stamp farm.nodes (slice_set txn.parts.items n q) reads.items
        → IsOpenOf farm (record txn { parts = with_item txn.parts n q; reads = reads })
    open_set reads is were = record {
      seat = opens.seat;
      number = opens.number;
      stamp = opens.stamp;
      known = opens.known;
      parts = parts_then farm.locks.items Is Is (λ i k _ y. Is i k y) txn.parts.items new (λ i k x y at was now. now) opens.parts
          (one_step (λ i k _ y. Is i k y) is (λ i k x was. was));
      reads = were;
    }

    -- nothing is put, there and elsewhere
    pub puts_set : BeginsWith (log q) (log p) → SamePuts txn.number (log p) (log q)
        → EachStep farm.locks.items (PutsNone txn.number) txn.parts.items (slice_set txn.parts.items n q)
    puts_set grown puts = one_step (PutsNone txn.number) record { grown = grown; puts = puts }
        (λ i k x was. record { grown = begins_same (log x); puts = λ a. refl })

    -- what will be written changes there alone
    pub rewrites : (P : List Write → List Write → Type 0) → P (written p) (written q)
        → Rewrites n P (rows txn.parts.items) (rows (slice_set txn.parts.items n q))
    rewrites P step = (
      written q,
      subst (λ (ws : List Write). P ws (written q)) (sym (row_is n p txn.parts.items part_there)) step,
      map-set written txn.parts.items n q,
    )

    module _ (runs : IsRunning l (id_of txn) txn.read_stamp q) where
      -- it runs: it writes the same,
      pub same_part : written q ≡ written p → IsPart (id_of txn) txn.read_stamp farm.nodes n l q
      same_part same = record { runs = runs; homed = λ w there. part_here.homed w (subst (IsAmong w) same there) }

      pushed_part : (x : Write) → home farm.nodes x.at ≡ n → written q ≡ written p ++ x ∷ [] → Is n l q
      pushed_part x homed is = record {
        runs = runs;
        homed = λ w there. elim (among_pushed (written p) x w (subst (IsAmong w) is there)) [
          | inl before ↦ part_here.homed w before
          | inr last ↦ subst (λ (z : Write). home farm.nodes z.at ≡ n) last homed
        ];
      }

      -- or an object of the node more,
      pub made_part : (result : Result Addr PlaceFault) (bytes : Bytes) → IfOk result (IsPlace (occupancy (replay (log q))))
          → IfOk result (λ a. written q ≡ written p ++ record { at = a; value = Some bytes; made = true } ∷ [])
          → OnErr result (written q ≡ written p) → IsPart (id_of txn) txn.read_stamp farm.nodes n l q
      made_part (Err fault) bytes place ok err = same_part err
      made_part (Ok a) bytes place ok err = pushed_part (record { at = a; value = Some bytes; made = true }) (home_placed q a runs.sits place) ok

      -- whose address was not written before,
      pub made_fresh : (result : Result Addr PlaceFault) → IfOk result (IsPlace (occupancy (replay (log q)))) → IfOk result (Lacks (written p))
          → IfOk result (λ a. (home farm.nodes a ≡ n) × (overlay farm.nodes (rows txn.parts.items) a ≡ None))
      made_fresh (Err fault) place lacks = tt
      made_fresh (Ok a) place lacks =
          let homed : home farm.nodes a ≡ n = home_placed q a runs.sits place in
          (homed, overlay_is farm txn opens a n (sym homed) p part ∙ lacks_none (written p) a lacks)

      -- or an address of the node anew
      pub written_part : {A E : Type 0} (result : Result A E) (a : Addr) (value : Option Bytes) → home farm.nodes a ≡ n
          → OnOk result (Overwrites a value (written p) (written q)) → OnErr result (written q ≡ written p)
          → IsPart (id_of txn) txn.read_stamp farm.nodes n l q
      written_part (Err fault) a value homed ok err = same_part err
      written_part (Ok _) a value homed ok err = elim ok [
        | inl over ↦ record {
          runs = runs;
          homed = λ w there. elim (among_set (written p) over.0 (record over.1 { value = value }) w (subst (IsAmong w) over.4 there)) [
            | inl before ↦ part_here.homed w before
            | inr is ↦ ap (λ (z : Write). home farm.nodes z.at) (sym is) ∙ (ap (home farm.nodes) over.3 ∙ homed)
          ];
        }
        | inr more ↦ pushed_part (record { at = a; value = value; made = false }) homed more.1
      ]

-- where bytes were read, or something is written, it may be written

pub may_read : (farm : Farm) (txn : Open) (a : Addr) (n : ℕ) (q : Part) (found : Found) → home farm.nodes a ≡ n → slice_get txn.parts.items n ≡ Some q
    → WasRead txn.number a txn.read_stamp found (log q) → IsSome found.value → MayWriteAt farm txn a
may_read farm txn a n q found homed here was some p at = by found.value refl some where
  same : q ≡ p
  same = same_Some q p (sym here ∙ (sym (ap (slice_get txn.parts.items) homed) ∙ at))

  by : (o : Option Bytes) → found.value ≡ o → IsSome o → MayWrite (id_of txn) txn.read_stamp p a
  by None e there = let bad : false ≡ true = there in absurd (cc)
  by (Some bytes) e there = subst (λ (z : Part). MayWrite (id_of txn) txn.read_stamp z a) same
      (inr ∣ record { found = found; bytes = bytes; read = was; is = e } ∣₁)

pub may_stands : (farm : Farm) (txn : Open) → IsOpenOf farm txn → (a : Addr) (n : ℕ) → n ≡ home farm.nodes a → (p : Part) → p ≡ get_or txn.parts.items n p
    → (i : ℕ) → StandsAt (written p) i a → MayWriteAt farm txn a
may_stands farm txn opens a n homed p read i (w, at, is) q there =
    let low : n < farm.nodes = home_low farm a n homed in
    let counted = farm.counted in
    let count = opens.parts.count in
    let here : slice_get txn.parts.items n ≡ Some p = slice_get_read txn.parts.items (length txn.parts.items) n p refl (omega (arith, low, counted, count)) read in
    let same : p ≡ q = same_Some p q (sym here ∙ (ap (slice_get txn.parts.items) homed ∙ there)) in
    inl (subst (λ (z : Part). IsWritten (written z) a) same (w, among_at (written p) i w at, is))
