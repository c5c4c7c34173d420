-- A way to compute replies, and what an engine closes with: each state is brought to numerals and constructors before the next call reads it, so that
-- a script of calls takes steps in proportion to its length. `computed` is `replies`, `closed` is `closing`. Assumes nothing.
use Prim.Native.Nat.{ℕ, zero, suc}
use mathlib.Core.Path.{◌≡◌, refl, ap, ◌∙◌}
use mathlib.Core.Bool.{Bool, true, false}
use mathlib.Core.Option.{Option, none, some}
use mathlib.Core.List.{List, [], ◌∷◌}
use Rattle.window.specs.declared.Side.{Side}
use Rattle.window.specs.declared.Side.TheVariants.{Left, Right}
use Rattle.window.specs.declared.Window.{Window}
use Rattle.rules.specs.Bus.{Discipline, PRI, RTDG, RTVC, Packet, Offer, Station, Contention, Bus}
use Rattle.rules.specs.Closing.{Totals}
use Rattle.rules.specs.Engine.{Engine, step_of, Call, admission, one-begin, one-probe, one-step, Reply, admitted, begun, probed, reply, next, after, replies}

-- `bring x k` is `k x`, with x computed first
abbrev pub Brings : Type 0 → Type 0 → Type 0
Brings R X = X → (X → R) → R

abbrev pub number : {R : Type 0} → Brings R ℕ
number zero k = k zero
number (suc n) k = k (suc n)

abbrev pub test : {R : Type 0} → Brings R Bool
test true k = k true
test false k = k false

abbrev discipline : {R : Type 0} → Brings R Discipline
discipline PRI k = k PRI
discipline RTDG k = k RTDG
discipline RTVC k = k RTVC

abbrev side : {R : Type 0} → Brings R Side
side Left k = k Left
side Right k = k Right

abbrev window : {R : Type 0} → Brings R Window
window w k = number w.start λ start. number w.size λ size. side w.side λ half. k (record { start = start; size = size; side = half })

abbrev perhaps : {R X : Type 0} → Brings R X → Brings R (Option X)
perhaps bring none k = k none
perhaps bring (some x) k = bring x λ y. k (some y)

abbrev list : {R X : Type 0} → Brings R X → Brings R (List X)
list bring [] k = k []
list bring (x ∷ xs) k = bring x λ y. list bring xs λ ys. k (y ∷ ys)

abbrev packet : {R : Type 0} → Brings R Packet
packet p k =
    number p.number λ n. number p.value λ v. number p.length λ l. number p.admission.0 λ t.
    k (record { number = n; value = v; length = l; admission = record { 0 = t } })

abbrev offer : {R : Type 0} → Brings R Offer
offer o k = number o.parameter λ v. packet o.packet λ p. k (record { parameter = v; packet = p })

abbrev station : {R : Type 0} → Brings R Station
station s k =
    number s.address λ a. number s.capability λ c. list packet s.queue λ ps. perhaps offer s.offer λ o.
    k (record { address = a; capability = c; queue = ps; offer = o })

abbrev contention : {R : Type 0} → Brings R Contention
contention c k = window c.window λ w. perhaps number c.tie λ t. k (record { window = w; tie = t })

abbrev pub bus : {R : Type 0} → Brings R Bus
bus b k =
    discipline b.discipline λ d. number b.D λ D. number b.A λ A. number b.q λ q. list station b.stations λ ss.
    number b.clock λ clock. number b.admitted λ admitted. number b.sent λ sent. number b.lost λ lost.
    number b.turned λ turned.
    perhaps number b.last λ last. perhaps contention b.contention λ c.
    k
    (record
    { discipline = d; D = D; A = A; q = q; stations = ss; clock = clock; admitted = admitted; sent = sent; lost = lost; turned = turned; last = last; contention = c })

-- a pair, for an engine that keeps something beside its bus
abbrev pub pair : {R X Y : Type 0} → Brings R X → Brings R Y → Brings R (X × Y)
pair first second p k = first p.0 λ x. second p.1 λ y. k (x, y)

-- the replies to calls, each state brought before the call reads it, and each call computed once
abbrev pub computed : (E : Engine) → Brings (List Reply) E.State → E.State → List Call → List Reply
computed E bring s [] = []
computed E bring s (admission a ∷ calls) = bring s λ t. let said = E.admit t a in admitted said.0 ∷ computed E bring said.1 calls
computed E bring s (one-begin ∷ calls) = bring s λ t. let said = E.begin t in begun said.0 ∷ computed E bring said.1 calls
computed E bring s (one-probe ∷ calls) = bring s λ t. let said = E.probe t in probed said.0 ∷ computed E bring said.1 calls
computed E bring s (one-step ∷ calls) = bring s λ t. let said = step_of E t in probed said.0 ∷ computed E bring said.1 calls

-- what an engine closes with after calls, each state brought before it is read
abbrev pub closed : (E : Engine) → Brings Totals E.State → E.State → List Call → Totals
closed E bring s [] = bring s λ t. E.closing t
closed E bring s (c ∷ calls) = bring s λ t. closed E bring (next E t c) calls

-- ---- bringing changes nothing

abbrev pub Same : {R X : Type 0} → Brings R X → Type 0
Same {R} {X} bring = (x : X) (k : X → R) → bring x k ≡ k x

pub number_same : {R : Type 0} → Same {R = R} number
number_same zero k = refl
number_same (suc n) k = refl

pub test_same : {R : Type 0} → Same {R = R} test
test_same true k = refl
test_same false k = refl

discipline_same : {R : Type 0} → Same {R = R} discipline
discipline_same PRI k = refl
discipline_same RTDG k = refl
discipline_same RTVC k = refl

side_same : {R : Type 0} → Same {R = R} side
side_same Left k = refl
side_same Right k = refl

perhaps_same : {R X : Type 0} {bring : Brings R X} → Same bring → Same (perhaps bring)
perhaps_same same none k = refl
perhaps_same same (some x) k = same x λ y. k (some y)

list_same : {R X : Type 0} {bring : Brings R X} → Same bring → Same (list bring)
list_same same [] k = refl
list_same {bring} same (x ∷ xs) k = same x (λ y. list bring xs λ ys. k (y ∷ ys)) ∙ list_same same xs λ ys. k (x ∷ ys)

packet_same : {R : Type 0} → Same {R = R} packet
packet_same p k = simp number_same

offer_same : {R : Type 0} → Same {R = R} offer
offer_same o k = simp number_same

station_same : {R : Type 0} → Same {R = R} station
station_same {R} s k = simp (number_same, list_same {R = R} packet_same, perhaps_same {R = R} offer_same)

contention_same : {R : Type 0} → Same {R = R} contention
contention_same {R} c k = simp (number_same, side_same, perhaps_same {R = R} number_same)

pub bus_same : {R : Type 0} → Same {R = R} bus
bus_same {R} b k =
    simp (discipline_same, number_same, list_same {R = R} station_same, perhaps_same {R = R} number_same, perhaps_same {R = R} contention_same)

pub pair_same : {R X Y : Type 0} {first : Brings R X} {second : Brings R Y} → Same first → Same second → Same (pair first second)
pair_same same same' p k = same p.0 _ ∙ same' p.1 _

-- `computed` is `replies`
pub computed_replies : (E : Engine) (bring : Brings (List Reply) E.State) → Same bring → (s : E.State) (calls : List Call)
    → computed E bring s calls ≡ replies E s calls
computed_replies E bring same s [] = refl
computed_replies E bring same s (admission a ∷ calls) = same s _ ∙ ap (λ rest. reply E s (admission a) ∷ rest) (computed_replies E bring same (next E s (admission a)) calls)
computed_replies E bring same s (one-begin ∷ calls) = same s _ ∙ ap (λ rest. reply E s one-begin ∷ rest) (computed_replies E bring same (next E s one-begin) calls)
computed_replies E bring same s (one-probe ∷ calls) = same s _ ∙ ap (λ rest. reply E s one-probe ∷ rest) (computed_replies E bring same (next E s one-probe) calls)
computed_replies E bring same s (one-step ∷ calls) = same s _ ∙ ap (λ rest. reply E s one-step ∷ rest) (computed_replies E bring same (next E s one-step) calls)

-- `closed` is `closing`, after the calls
pub closed_closing : (E : Engine) (bring : Brings Totals E.State) → Same bring → (s : E.State) (calls : List Call)
    → closed E bring s calls ≡ E.closing (after E s calls)
closed_closing E bring same s [] = same s _
closed_closing E bring same s (c ∷ calls) = same s _ ∙ closed_closing E bring same (next E s c) calls
