-- A begin and a probe in the code's terms: what a refused one gives back, what an accepted one makes, and what a begin shows. Assumes nothing.
use Prim.Native.Nat.{ℕ, ◌≤◌, ◌<◌}
use mathlib.Core.Path.{◌≡◌, refl, sym, ap, ap₂, ◌∙◌}
use mathlib.Core.Bool.{Bool, true, false, not, cond}
use mathlib.Core.Option.{Option, none, some}
use mathlib.Core.List.{List, [], map}
use native.Mathlib.Nat.{zero-add}
use native.Mathlib.Omega.{arith}
use lib.Dec.{ltb, eqb}
use lib.ListN.{length, get_or, replicate, length-map, get_or-map}
use borrow.Author.Tests.{eqb-true, eqb-false, ne_eqb}
use Rattle.word.specs.Word.{bit_at}
use Rattle.word.proofs.Laws.{bit_word, word_same, word_none}
use Rattle.rules.specs.Lists.{verdict}
use Rattle.rules.specs.Bus.{most_stations, last_slot, Offer, Station, Contention, Bus}
use Rattle.rules.specs.Standing.{stands}
use Rattle.rules.specs.Begin.{entered, begin, drops_of}
use Rattle.rules.specs.Probe.{Answer, refused_answer, probe}
use Rattle.rules.specs.Step as Step
use Rattle.rules.specs.Step.{Contends, contends_with, refused_begun, begun_answer, is_under_way, begin_refusal, begin_call, probe_refusal, probe_call, step_refusal}
use Rattle.rules.proofs.Tests.{told}
use Rattle.rules.proofs.Standing.{stands_exactly, set_up_stands, begin_accepted, begin_accepts, begin_is, probe_step, step_is}
use Rattle.bus.specs.Types.{Address, Listed, State}
use Rattle.state.specs.State.{Held, tie_of, values_from, station_at, meaning, form, padded, nobody, no_station, station_or, listed_form, contender_form, contender_in, segment_form}
use Rattle.bus.specs.Coded.{Begun, coded_begin, coded_probe, begin_result, step_result, is_shown, address_shown, number_shown, parameter_shown, begun_form, shown_at, begun_of}
use Rattle.bus.specs.Parts.{shown_of}
use Rattle.state.proofs.Form.{parts_padded}
use Rattle.state.proofs.Rows.{values_length, values_ext, row_at, row_same, row_replicate}
use Rattle.state.proofs.Stands.{Lent}
use Rattle.bus.proofs.Coded.{hands_back_begin, hands_back_probe, begin_bears, probe_bears, standing_exactly_begin, standing_exactly_probe}
use Rattle.bus.specs.Parts.{open_of}
use Rattle.bus.proofs.Steps.{goes_on}
use Rattle.bus.proofs.InPlace.{Sound}

-- ---- what refuses, by whether the state stands

abbrev pub begin_refused : Bool → State → ℕ
begin_refused t s = cond t (cond s.segment.contention.begun 25 0) 1

abbrev pub probe_refused : Bool → State → ℕ
probe_refused t s = cond t (cond s.segment.contention.begun (cond (ltb last_slot s.segment.clock.0) 17 0) 26) 1

-- a contention is under way in the code where it is on the bus
module _ (s : State) (r : Lent s) where
  abbrev lent_contention : Bool → Option Contention
  lent_contention begun = cond begun (some (record { window = s.segment.contention.window; tie = tie_of s.segment.contention })) none

  stands! : not (stands (meaning s)) ≡ false
  stands! = ap not (told (stands_exactly (meaning s)) r.stands)

  begin-refusal! : begin_refusal (meaning s) ≡ begin_refused true s
  begin-refusal! = ap (λ t. verdict t 1 (verdict (is_under_way (meaning s).contention) 25 0)) stands! ∙ go s.segment.contention.begun
    where
      go : (t : Bool) → ◌≡◌ {A = ℕ} (verdict (is_under_way (lent_contention t)) 25 0) (cond t 25 0)
      go true = refl
      go false = refl

  probe-refusal! : probe_refusal (meaning s) ≡ probe_refused true s
  probe-refusal! =
      ap (λ t. verdict t 1 (verdict (not (is_under_way (meaning s).contention)) 26 (verdict (ltb last_slot s.segment.clock.0) 17 0))) stands!
      ∙ go s.segment.contention.begun (ltb last_slot s.segment.clock.0)
    where
      go : (t u : Bool) → ◌≡◌ {A = ℕ} (verdict (not (is_under_way (lent_contention t))) 26 (verdict u 17 0)) (cond t (cond u 17 0) 26)
      go true true = refl
      go true false = refl
      go false u = refl

  -- they are the calls of the rules
  begin_of_rules : coded_begin s ≡ ((begin_call (meaning s)).0, form (begin_call (meaning s)).1)
  begin_of_rules =
      ap (λ t. cond t ((begin_call (meaning s)).0, form (begin_call (meaning s)).1) (refused_begun 1, s)) (parts_padded s r.zeros)

  probe_of_rules : coded_probe s ≡ ((probe_call (meaning s)).0, form (probe_call (meaning s)).1)
  probe_of_rules =
      ap (λ t. cond t ((probe_call (meaning s)).0, form (probe_call (meaning s)).1) (refused_answer 1, s)) (parts_padded s r.zeros)

  -- a begin that is not refused
  pub begins_now :
      s.segment.contention.begun ≡ false → begin_result (begun_answer (meaning s), form (begin (meaning s))) ≡ begin_result (coded_begin s)
  begins_now between =
      sym
      (ap begin_result begin_of_rules
      ∙ ap (λ (o : Step.Begun × Bus). begin_result (o.0, form o.1))
      (begin_is (meaning s) (begin_accepts (meaning s) r.stands (ap lent_contention between))))

  -- a probe that is not refused
  pub probes_now :
      s.segment.contention.begun ≡ true → ltb last_slot s.segment.clock.0 ≡ false
      → step_result ((probe (open_of s 0)).0, form (probe (open_of s 0)).1) ≡ step_result (coded_probe s)
  probes_now begun early =
      let ok : step_refusal (meaning s) ≡ 0 = ap₂ (λ t u. verdict t 1 (verdict u 17 0)) stands! early in
      let under : ¬ ((meaning s).contention ≡ none) = λ e. is_some (sym (ap lent_contention begun) ∙ e) in
      sym
      (ap step_result probe_of_rules
      ∙ ap (λ (o : Answer × Bus). step_result (o.0, form o.1)) (probe_step (meaning s) under ∙ step_is (meaning s) ok ∙ ap probe (goes_on s begun)))
    where
      is_some : {c : Contention} → some c ≡ none → ⊥
      is_some e = let z : ◌≡◌ {A = ℕ} 0 1 = cc in omega arith

-- ---- a refused call gives its number, and the state as lent

held : (t : Bool) (s : State) → Sound t s → Held s
held true s r = r.held
held false s r = r.0

pub begin_away :
    (t : Bool) (s : State) → Sound t s → (refusal : ℕ) → refusal ≡ begin_refused t s → ¬ (refusal ≡ 0)
    → begin_result (refused_begun refusal, s) ≡ begin_result (coded_begin s)
begin_away t s r refusal e n =
    let same = e ∙ sym (number t r) in
    ap (λ k. begin_result (refused_begun k, s)) same ∙ sym (ap begin_result (hands_back_begin s (held t s r) (λ z. n (same ∙ z))))
  where
    number : (t : Bool) → Sound t s → (coded_begin s).0.refusal ≡ begin_refused t s
    number true r = ap (λ (o : Step.Begun × State). o.0.refusal) (begin_of_rules s r) ∙ begin_bears (meaning s) ∙ begin-refusal! s r
    number false r = (standing_exactly_begin s).1 r.1

pub probe_away :
    (t : Bool) (s : State) → Sound t s → (refusal : ℕ) → refusal ≡ probe_refused t s → ¬ (refusal ≡ 0)
    → step_result (refused_answer refusal, s) ≡ step_result (coded_probe s)
probe_away t s r refusal e n =
    let same = e ∙ sym (number t r) in
    ap (λ k. step_result (refused_answer k, s)) same ∙ sym (ap step_result (hands_back_probe s (held t s r) (λ z. n (same ∙ z))))
  where
    number : (t : Bool) → Sound t s → (coded_probe s).0.refusal ≡ probe_refused t s
    number true r = ap (λ (o : Answer × State). o.0.refusal) (probe_of_rules s r) ∙ probe_bears (meaning s) ∙ probe-refusal! s r
    number false r = (standing_exactly_probe s).1 r.1

-- ---- a call that is not refused

pub begin_on :
    (t : Bool) (s : State) → Sound t s → (refusal : ℕ) → refusal ≡ begin_refused t s → refusal ≡ 0 → (Lent s) × (s.segment.contention.begun ≡ false)
begin_on true s r refusal e z = (r, go s.segment.contention.begun (sym e ∙ z))
  where
    go : (t : Bool) → ◌≡◌ {A = ℕ} (cond t 25 0) 0 → t ≡ false
    go true f = absurd (omega arith)
    go false f = refl
begin_on false s r refusal e z = absurd (omega arith)

pub probe_on :
    (t : Bool) (s : State) → Sound t s → (refusal : ℕ) → refusal ≡ probe_refused t s → refusal ≡ 0
    → (Lent s) × (s.segment.contention.begun ≡ true) × (ltb last_slot s.segment.clock.0 ≡ false)
probe_on true s r refusal e z =
    let both = go s.segment.contention.begun (ltb last_slot s.segment.clock.0) (sym e ∙ z) in (r, both.0, both.1)
  where
    go : (t u : Bool) → ◌≡◌ {A = ℕ} (cond t (cond u 17 0) 26) 0 → (t ≡ true) × (u ≡ false)
    go true true f = absurd (omega arith)
    go true false f = (refl, refl)
    go false u f = absurd (omega arith)
probe_on false s r refusal e z = absurd (omega arith)

-- ---- what a begin shows

-- the answer to no begin: a word and rows of zeros
pub none_shown : (n : ℕ) → ◌≡◌ {A = Begun} (record {
  refusal = n;
  drops = 0;
  slot = record { 0 = 0 };
  start = 0;
  size = 0;
  contenders = 0;
  addresses = replicate 64 (record { 0 = 0 });
  numbers = replicate 64 0;
  parameters = replicate 64 0;
}) (begun_form (refused_begun n))
none_shown n = λ i.
    record {
      refusal = n;
      drops = 0;
      slot = record { 0 = 0 };
      start = 0;
      size = 0;
      contenders = sym (word_none most_stations) i;
      addresses = row_replicate most_stations (record { 0 = 0 }) i;
      numbers = row_replicate most_stations 0 i;
      parameters = row_replicate most_stations 0 i;
    }

-- what is shown at a place is of the station there
shown_at_place : (stations : List Station) (i : ℕ) → get_or (map (λ s. contends_with s s.offer) stations) i none ≡ contends_with (get_or stations i no_station) (get_or stations i no_station).offer
shown_at_place stations i = get_or-map (λ s. contends_with s s.offer) stations i no_station

module _ (b : Bus) where
  abbrev here : ℕ → Station
  here i = station_or (begin b) i

  abbrev there : ℕ → Option Contends
  there i = get_or (begun_answer b).contenders i none

  at : (i : ℕ) → there i ≡ contends_with (here i) (here i).offer
  at i = shown_at_place (begin b).stations i

  contends! : (i : ℕ) → (contender_form (here i).offer).contends ≡ is_shown (there i)
  contends! i = go (here i).offer ∙ sym (ap is_shown (at i))
    where
      go : (o : Option Offer) → (contender_form o).contends ≡ is_shown (contends_with (here i) o)
      go none = refl
      go (some o) = refl

  number! : (i : ℕ) → (contender_form (here i).offer).packet.number ≡ number_shown (there i)
  number! i = go (here i).offer ∙ sym (ap number_shown (at i))
    where
      go : (o : Option Offer) → (contender_form o).packet.number ≡ number_shown (contends_with (here i) o)
      go none = refl
      go (some o) = refl

  parameter! : (i : ℕ) → (contender_form (here i).offer).parameter ≡ parameter_shown (there i)
  parameter! i = go (here i).offer ∙ sym (ap parameter_shown (at i))
    where
      go : (o : Option Offer) → (contender_form o).parameter ≡ parameter_shown (contends_with (here i) o)
      go none = refl
      go (some o) = refl

  -- its address is that of the station listed there, where its bit is set
  address! :
      (i : ℕ) → i < 64
      → cond (bit_at (segment_form (begin b)).contenders i) (get_or (segment_form (begin b)).listed i nobody).address (record { 0 = 0 })
      ≡ record { 0 = address_shown (there i) }
  address! i l =
      ap₂ (λ (t : Bool) (x : Listed). cond t x.address (record { 0 = 0 }))
      (bit_word (λ j. (contender_in (begin b) j).contends) most_stations i l)
      (row_at most_stations (λ j. listed_form (station_or (begin b) j)) i nobody l)
      ∙ go (here i).offer
      ∙ sym (ap (λ (x : Option Contends). record { 0 = address_shown x }) (at i))
    where
      go :
          (o : Option Offer)
          → ◌≡◌ {A = Address} (cond (contender_form o).contends (record { 0 = (here i).address }) (record { 0 = 0 }))
          (record { 0 = address_shown (contends_with (here i) o) })
      go none = refl
      go (some o) = refl

  pub shown-is : shown_of (segment_form (begin b)) (drops_of b) ≡ begun_form (begun_answer b)
  shown-is = λ k.
      record {
        refusal = 0;
        drops = drops_of b;
        slot = record { 0 = b.clock };
        start = (begun_answer b).start;
        size = (begun_answer b).size;
        contenders = word_same (λ i. (contender_in (begin b) i).contends) (λ i. is_shown (there i)) most_stations (λ i l. contends! i) k;
        addresses = row_same most_stations _ (λ i. record { 0 = address_shown (there i) }) address! k;
        numbers = row_same most_stations _ (λ i. number_shown (there i)) (λ i l. number! i) k;
        parameters = row_same most_stations _ (λ i. parameter_shown (there i)) (λ i l. parameter! i) k;
      }

-- ---- what a begin shows says all of the engine's answer

-- at a place, whatever is shown there
read-place : (x : Option Contends) → cond (is_shown x) (some (record { address = address_shown x; number = number_shown x; parameter = parameter_shown x })) none ≡ x
read-place none = refl
read-place (some x) = refl

shown_read : (o : Step.Begun) (i : ℕ) → i < 64 → shown_at (begun_form o) i ≡ get_or o.contenders i none
shown_read o i l =
    let x = get_or o.contenders i none in
    ap (λ (t : Bool). made t (get_or (begun_form o).addresses i (record { 0 = 0 })).0 (get_or (begun_form o).numbers i 0) (get_or (begun_form o).parameters i 0))
    (bit_word (λ j. is_shown (get_or o.contenders j none)) most_stations i l)
    ∙ ap (λ (a : Address). made (is_shown x) a.0 (get_or (begun_form o).numbers i 0) (get_or (begun_form o).parameters i 0))
    (row_at most_stations (λ j. record { 0 = address_shown (get_or o.contenders j none) }) i (record { 0 = 0 }) l)
    ∙ ap₂ (λ (n p : ℕ). made (is_shown x) (address_shown x) n p)
    (row_at most_stations (λ j. number_shown (get_or o.contenders j none)) i 0 l)
    (row_at most_stations (λ j. parameter_shown (get_or o.contenders j none)) i 0 l)
    ∙ read-place x
  where
    made : Bool → ℕ → ℕ → ℕ → Option Contends
    made t address number parameter = cond t (some (record { address = address; number = number; parameter = parameter })) none

-- of an accepted begin on a bus of at most 64 stations
answer_shown : (b : Bus) (n : ℕ) → length b.stations ≡ n → n ≤ 64 → begun_of n (begun_form (begun_answer b)) ≡ begun_answer b
answer_shown b n e few = λ k.
    record {
      refusal = 0;
      drops = drops_of b;
      slot = b.clock;
      start = (begun_answer b).start;
      size = (begun_answer b).size;
      contenders = sym all k;
    }
  where
    long : length (begun_answer b).contenders ≡ n
    long = length-map (begin b).stations (λ s. contends_with s s.offer) ∙ length-map b.stations (entered b) ∙ e

    all : (begun_answer b).contenders ≡ values_from (shown_at (begun_form (begun_answer b))) 0 n
    all =
        values_ext (shown_at (begun_form (begun_answer b))) 0 n (begun_answer b).contenders none long
        (λ j l. sym (ap (shown_at (begun_form (begun_answer b))) (zero-add j) ∙ shown_read (begun_answer b) j (omega arith)))

refused_shown : (n k : ℕ) → ¬ (k ≡ 0) → begun_of n (begun_form (refused_begun k)) ≡ refused_begun k
refused_shown n k z =
    ap
    (λ (t : Bool).
    record {
      refusal = k;
      drops = 0;
      slot = 0;
      start = 0;
      size = 0;
      contenders = cond t (values_from (shown_at (begun_form (refused_begun k))) 0 n) [];
    })
    (ne_eqb k 0 z)

pub begun_read : (s : State) → begun_of s.segment.settings.n (begun_form (coded_begin s).0) ≡ (coded_begin s).0
begun_read s = by (padded s)
  where
    n : ℕ
    n = s.segment.settings.n

    on_bus : Bus → Bool → Step.Begun × Bus
    on_bus b t = cond t (begun_answer b, begin b) (refused_begun (begin_refusal b), b)

    answered :
        (b : Bus) → length b.stations ≡ n → (t : Bool) → eqb (begin_refusal b) 0 ≡ t → begun_of n (begun_form (on_bus b t).0) ≡ (on_bus b t).0
    answered b long true e =
        let stood = (begin_accepted b (eqb-true _ _ e)).0 in answer_shown b n long (omega (arith, (set_up_stands b stood).n_most))
    answered b long false e = refused_shown n (begin_refusal b) (eqb-false _ _ e)

    lent : Bool → Step.Begun × State
    lent t = cond t ((begin_call (meaning s)).0, form (begin_call (meaning s)).1) (refused_begun 1, s)

    by : (t : Bool) → begun_of n (begun_form (lent t).0) ≡ (lent t).0
    by true = answered (meaning s) (values_length (station_at s) 0 n) (eqb (begin_refusal (meaning s)) 0) refl
    by false = refused_shown n 1 (λ z. omega arith)
