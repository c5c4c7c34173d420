-- The places of a row: how long the arrays are, station i's places in the row, and numbers written behind others. Assumes nothing.
use Prim.Native.Nat.{ℕ, ◌+◌, ◌-◌, ◌*◌, ◌≤◌, ◌<◌}
use mathlib.Core.Path.{◌≡◌, sym, ap, ap₂, ◌∙◌}
use mathlib.Core.List.{List, ◌++◌}
use native.Mathlib.Numerals.{add-one}
use native.Mathlib.Omega.{arith}
use mir.Val.{Val}
use denote.Laws.{Is}
use lib.ListN.{length, get_or, take, drop, set, length-map, length-take, length-drop, get_or-map}
use lib.Seq.{take_all, get_or-take, get_or-drop}
use lib.Seq.{paste, paste-suc, length-paste, take-paste}
use Rattle.rules.specs.Bus.{numbers_in}
use Rattle.state.specs.State.{Queues, Packet, no_packet, places_at}
use Rattle.state.specs.contracts.Queues as queues

-- ---- the arrays of what a function is handed have their lengths

pub queues_arrays : (qs : Queues) (vs : List Val) → Is queues.the_row qs vs → (length qs.lengths ≡ 64) × (length qs.packets ≡ 1024)
queues_arrays qs vs owned =
    (owned.1.1.0.1.0.1, owned.1.1.1.0.1.0.1)

-- ---- station i's places in the row

pub places_count : (qs : Queues) (i : ℕ) → i < 64 → length qs.packets ≡ 1024 → length (places_at qs i) ≡ 16
places_count qs i h e = simp (length-take, length-drop) (omega arith)

pub place_at : (qs : Queues) (i j : ℕ) → j < 16 → get_or (places_at qs i) j no_packet ≡ get_or qs.packets (16 * i + j) no_packet
place_at qs i j h = get_or-take 16 (drop (16 * i) qs.packets) j no_packet h ∙ get_or-drop (16 * i) qs.packets j no_packet

-- its places, as the code takes them out
abbrev pub cut : Queues → ℕ → List Packet
cut qs i = take (16 * i + 16 - 16 * i) (drop (16 * i) qs.packets)

pub cut_out : (qs : Queues) (i : ℕ) → cut qs i ≡ places_at qs i
cut_out qs i = let sixteen : 16 * i + 16 - 16 * i ≡ 16 = omega arith in ap (λ k. take k (drop (16 * i) qs.packets)) sixteen

-- ---- numbers written behind others

-- a packet's number
abbrev number_of : Packet → ℕ
number_of p = p.number

-- the numbers of packets written behind others
module _ (packets : List Packet) (at : ℕ) (before : List ℕ) (j : ℕ) where
  -- one more
  pub written_one :
      {ns : List ℕ} {k : ℕ} → k ≡ at + j → at + j < length before → j < length packets → ns ≡ paste before at (numbers_in packets) j
      → set ns k (get_or packets j no_packet).number ≡ paste before at (numbers_in packets) (j + 1)
  written_one {ns} {k} same h l e =
      ap₂ (λ xs m. set xs m (get_or packets j no_packet).number) e same
      ∙ ap (set (paste before at (numbers_in packets) j) (at + j)) (sym (get_or-map number_of packets j no_packet))
      ∙ paste-suc before at (numbers_in packets) j 0 h (omega (arith, length-map packets number_of))
      ∙ ap (paste before at (numbers_in packets)) (sym (add-one j))

  -- all of them
  pub written_all :
      {ns : List ℕ} → j ≡ length packets → at + length packets ≤ length before → ns ≡ paste before at (numbers_in packets) j
      → (length ns ≡ length before) × (take (at + j) ns ≡ take at before ++ numbers_in packets)
  written_all {ns} done room e =
      let count = length-map packets number_of in (
        ap length e ∙ length-paste before at (numbers_in packets) j (omega arith) (omega (arith, count)),
        ap (take (at + j)) e
            ∙ take-paste before at (numbers_in packets) j (omega arith) (omega (arith, count))
            ∙ ap (λ s. take at before ++ s) (take_all j (numbers_in packets) (omega (arith, count))),
      )
