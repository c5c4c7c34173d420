-- The contenders of a bus and the stations they are. Assumes nothing.
use Prim.Native.Nat.{ℕ, ◌≤◌}
use mathlib.Core.Path.{◌≡◌, refl, sym, ap, ap₂, ◌∙◌}
use mathlib.Core.Logic.{◌⊎◌, inl, inr}
use mathlib.Core.Bool.{Bool, true, false, cond}
use mathlib.Core.Option.{Option, none, some}
use mathlib.Core.List.{List, [], ◌∷◌, map}
use native.Mathlib.Omega.{arith}
use lib.Dec.{eqb}
use borrow.Author.Tests.{eqb-true, ne_eqb}
use Rattle.rules.specs.Lists.{count, Among, at_head, in_tail, All, Distinct}
use Rattle.rules.specs.Bus.{Offer, Station, Bus}
use Rattle.rules.specs.Admission.{Arrival, named, new_packet, queued, joined, with_packet}
use Rattle.rules.specs.Probe.{Contender, contender_of, contending, contenders}
use Rattle.rules.proofs.Laws.{among_cases, among_none, count_none, map_into}
use Rattle.rules.proofs.Numbers.{same_apart}

-- a contender is a station with its offer, and a station with an offer contends
pub record FromStation (x : Contender) (stations : List Station) : Type 0 where
  pub station : Station
  pub listed : Among station stations
  pub offer : Offer
  pub offered : station.offer ≡ some offer
  pub is : x ≡ contender_of station offer

pub contender_from : {x : Contender} (stations : List Station) → Among x (contenders stations) → FromStation x stations
contender_from [] i = absurd (among_none i)
contender_from {x} (s ∷ stations) i = go s.offer refl i (contender_from stations)
  where
    later : FromStation x stations → FromStation x (s ∷ stations)
    later r = record { station = r.station; listed = in_tail r.listed; offer = r.offer; offered = r.offered; is = r.is }

    first :
        (o : Offer) → s.offer ≡ some o → (x ≡ contender_of s o) ⊎ Among x (contenders stations) → (Among x (contenders stations) → FromStation x stations)
        → FromStation x (s ∷ stations)
    first o e (inl is) more = record { station = s; listed = at_head refl; offer = o; offered = e; is = is }
    first o e (inr j) more = later (more j)

    go :
        (o : Option Offer) → s.offer ≡ o → Among x (contending s o (contenders stations)) → (Among x (contenders stations) → FromStation x stations)
        → FromStation x (s ∷ stations)
    go none e j more = later (more j)
    go (some o) e j more = first o e (among_cases j) more

pub contender_into : {s : Station} {o : Offer} (stations : List Station) → Among s stations → s.offer ≡ some o → Among (contender_of s o) (contenders stations)
contender_into {s} {o} [] i offered = elim i [ ]
contender_into {s} {o} (t ∷ stations) (at_head e) offered =
    rw (sym (ap (λ (u : Station). u.offer) e) ∙ offered) (at_head (ap (λ (u : Station). contender_of u o) e))
contender_into {s} {o} (t ∷ stations) (in_tail i) offered = go t.offer (contender_into stations i offered)
  where
    go : (p : Option Offer) → Among (contender_of s o) (contenders stations) → Among (contender_of s o) (contending t p (contenders stations))
    go none j = j
    go (some p) j = in_tail j

-- nobody contends once offers are withdrawn
pub none_contends : {X : Type 0} (f : X → Station) (stations : List X) → ((s : X) → (f s).offer ≡ none) → contenders (map f stations) ≡ []
none_contends f [] h = refl
none_contends f (s ∷ stations) h = ap (λ o. contending (f s) o (contenders (map f stations))) (h s) ∙ none_contends f stations h

-- a station with the same address, capability and offer as another
abbrev pub Alike : Station → Station → Type 0
Alike t s = (t.address ≡ s.address) × (t.capability ≡ s.capability) × (t.offer ≡ s.offer)

-- contenders are the same where address, capability and offer are
contenders_same : (f : Station → Station) (stations : List Station) → All (λ s. Alike (f s) s) stations → contenders (map f stations) ≡ contenders stations
contenders_same f [] h = refl
contenders_same f (s ∷ stations) h =
    let k = h s (at_head refl) in
    ap (λ (o : Option Offer). contending (f s) o (contenders (map f stations))) k.2
    ∙ go s.offer k.0 k.1 (contenders_same f stations (λ t i. h t (in_tail i)))
  where
    go :
        (o : Option Offer) → (f s).address ≡ s.address → (f s).capability ≡ s.capability → contenders (map f stations) ≡ contenders stations
        → contending (f s) o (contenders (map f stations)) ≡ contending s o (contenders stations)
    go none a c more = more
    go (some o) a c more = λ i. record { address = a i; capability = c i; parameter = o.parameter; packet = o.packet } ∷ more i

-- an admission changes nothing but a queue
pub joined_alike : (b : Bus) (a : Arrival) (s : Station) → Alike (joined b a s) s
joined_alike b a s = go (named a s)
  where
    go : (t : Bool) → Alike (cond t (queued (new_packet b a) s) s) s
    go true = (refl, refl, refl)
    go false = (refl, refl, refl)

-- so that its packet does not join the contention
pub contenders_admitted : (b : Bus) (a : Arrival) → contenders (with_packet b a).stations ≡ contenders b.stations
contenders_admitted b a = contenders_same (joined b a) b.stations (λ s i. joined_alike b a s)

-- A number of the station that the contender carries on, where no two stations share it: at most one contender has it.
one_number :
    (f : Station → ℕ) (g : Contender → ℕ) → ((s : Station) (o : Offer) → g (contender_of s o) ≡ f s) → (n : ℕ) (stations : List Station)
    → Distinct (map f stations) → count (λ x. eqb (g x) n) (contenders stations) ≤ 1
one_number f g carried n [] h = omega arith
one_number f g carried n (s ∷ stations) h = go s.offer (eqb (f s) n) refl (one_number f g carried n stations h.1)
  where
    -- where the first station has the number, no other has it
    others : f s ≡ n → All (λ x. eqb (g x) n ≡ false) (contenders stations)
    others e x i =
        let r = contender_from stations i in
        let same : g x ≡ f r.station = ap g r.is ∙ carried r.station r.offer in
        ne_eqb (g x) n (λ q. h.0 (rw (e ∙ sym q ∙ same) (map_into f stations r.listed)))

    go :
        (o : Option Offer) (t : Bool) → eqb (f s) n ≡ t → count (λ x. eqb (g x) n) (contenders stations) ≤ 1
        → count (λ x. eqb (g x) n) (contending s o (contenders stations)) ≤ 1
    go none t e k = k
    go (some o) true e k = let z = count_none (contenders stations) (others (eqb-true (f s) n e)) in rw (carried s o, e) (omega arith)
    go (some o) false e k = rw (carried s o, e) (omega arith)

-- stations of distinct addresses: at most one contender has an address
pub one_address : (n : ℕ) (stations : List Station) → Distinct (map (λ s. s.address) stations) → count (λ x. eqb x.address n) (contenders stations) ≤ 1
one_address = one_number (λ s. s.address) (λ x. x.address) (λ s o. refl)

-- the same of capabilities
pub one_capability :
    (n : ℕ) (stations : List Station) → Distinct (map (λ s. s.capability) stations) → count (λ x. eqb x.capability n) (contenders stations) ≤ 1
one_capability = one_number (λ s. s.capability) (λ x. x.capability) (λ s o. refl)

-- Where no two stations share a number that the contender carries on, two contenders of one number are one.
same_number :
    (f : Station → ℕ) (g : Contender → ℕ) → ((s : Station) (o : Offer) → g (contender_of s o) ≡ f s) → {x y : Contender} (stations : List Station)
    → Distinct (map f stations) → Among x (contenders stations) → Among y (contenders stations) → g x ≡ g y → x ≡ y
same_number f g carried {x} {y} stations h i j e =
    let a = contender_from stations i in
    let b = contender_from stations j in
    let number : f a.station ≡ f b.station =
    sym (carried a.station a.offer) ∙ ap g (sym a.is) ∙ e ∙ ap g b.is ∙ carried b.station b.offer in
    let station : a.station ≡ b.station = same_apart f stations h a.listed b.listed number in
    let perhaps : some a.offer ≡ some b.offer = sym a.offered ∙ ap (λ (s : Station). s.offer) station ∙ b.offered in
    let offer : a.offer ≡ b.offer = cc perhaps in
    a.is ∙ ap₂ contender_of station offer ∙ sym b.is

pub same_address :
    {x y : Contender} (stations : List Station) → Distinct (map (λ s. s.address) stations) → Among x (contenders stations) → Among y (contenders stations)
    → x.address ≡ y.address → x ≡ y
same_address = same_number (λ s. s.address) (λ x. x.address) (λ s o. refl)

pub same_capability :
    {x y : Contender} (stations : List Station) → Distinct (map (λ s. s.capability) stations) → Among x (contenders stations) → Among y (contenders stations)
    → x.capability ≡ y.capability → x ≡ y
same_capability = same_number (λ s. s.capability) (λ x. x.capability) (λ s o. refl)
