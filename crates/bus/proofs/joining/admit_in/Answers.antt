-- `joining::admit_in` meets its contract: it tries 1, then 11 to 16; a packet that is not refused joins its station's queue.
use Rattle.std.proofs.Common.{ℕ, ap, sym, ◌∙◌, rules}
use Rattle.std.specs.Prelude.{Err}
use Rattle.state.proofs.Stands.{lent_held}
use Rattle.bus.specs.Parts.{admission_to}
use Rattle.bus.proofs.Admitting.{joined_at, counted as admitting}
use Rattle.bus.proofs.InPlace.{Sound, sound_of, Taken, asked_away, asked_in}
use Rattle.bus.proofs.joining.admit_in.Goals as goal
use Rattle.bus.proofs.joining.admit_in.Goals.{Start, In-Ok}

sound! : (c : Start) → Sound c.args.stands c.args.s.now
sound! c = sound_of c.args.s.now c.args.stands c.requires.held (lent_held c.args.s.now c.requires.held) c.requires.stands

pub asked-requires : goal.asked-requires
asked-requires c = λ e. (lent_held c.args.s.now c.requires.held (sym c.requires.stands ∙ e)).few

-- the packet's place
taken! : (c : In-Ok) → Taken c.args.s.now c.args.address c.args.value c.args.length (c.in-Ok.place, c.in-Ok.number)
taken! c =
    let s = c.args.s.now in
    let sound = sound_of s c.args.stands c.requires.held (lent_held s c.requires.held) c.requires.stands in
    asked_in s c.args.address c.args.value c.args.length c.args.stands sound (c.in-Ok.place, c.in-Ok.number) c.in-Ok.ensures

pub offset_bounds-s-place : goal.offset_bounds-s-place
offset_bounds-s-place c = let h = (taken! (goal.at.offset_bounds-s-place c).In-Ok).within_row in search rules

pub bounds-s-place : goal.bounds-s-place
bounds-s-place c = (taken! (goal.at.bounds-s-place c).In-Ok).within_row

pub overflow_mul-at : goal.overflow_mul-at
overflow_mul-at c = let h = (taken! (goal.at.overflow_mul-at c).In-Ok).within_row in search rules

pub overflow_add-at : goal.overflow_add-at
overflow_add-at c =
    let taken = taken! (goal.at.overflow_add-at c).In-Ok in
    let h = taken.within_row in
    let k = taken.room in
    search rules

pub offset_bounds-s-at : goal.offset_bounds-s-at
offset_bounds-s-at c =
    let taken = taken! (goal.at.offset_bounds-s-at c).In-Ok in
    let h = taken.within_row in
    let k = taken.room in
    search rules

pub bounds-s-at : goal.bounds-s-at
bounds-s-at c =
    let taken = taken! (goal.at.bounds-s-at c).In-Ok in
    let h = taken.within_row in
    let k = taken.room in
    search rules

pub overflow_add-s : goal.overflow_add-s
overflow_add-s c =
    let taken = taken! (goal.at.overflow_add-s c).In-Ok in
    let h = taken.within_row in
    let k = taken.room in
    search rules

pub offset_bounds-s-place-in-Ok : goal.offset_bounds-s-place-in-Ok
offset_bounds-s-place-in-Ok c = let h = (taken! (goal.at.offset_bounds-s-place-in-Ok c).In-Ok).within_row in search rules

pub bounds-s-place-in-Ok : goal.bounds-s-place-in-Ok
bounds-s-place-in-Ok c = (taken! (goal.at.bounds-s-place-in-Ok c).In-Ok).within_row

pub returns-in-Ok-clause-admitted : goal.returns-in-Ok-clause-admitted
returns-in-Ok-clause-admitted c =
    let args = c.args in
    let o = c.in-Ok in
    let joined = joined_at args.s.now o.place o.number args.value args.length in
    ap (λ (k : ℕ). admission_to (record { refusal = 0; number = o.number }) (record { segment = (admitting args.s.now k).segment; queues = joined.queues })) c.from-s.ensures
    ∙ (taken! (goal.at.returns-in-Ok-clause-admitted c).In-Ok).is

pub returns-in-Err-clause-admitted : goal.returns-in-Err-clause-admitted
returns-in-Err-clause-admitted c =
    let args = c.args in
    asked_away args.s.now args.address args.value args.length args.stands (sound! (goal.at.returns-in-Err-clause-admitted c).Start) c.from-refusal.result
    (ap Err c.from-refusal.ensures ∙ c.in-Err.ensures)
    c.turned_after-s.result
    c.turned_after-s.ensures
