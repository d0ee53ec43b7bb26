-- What a submission leaves, once for both kinds: of each end of a decision, all that the frame says of it.
use Rattle.std.specs.Prelude.{◌≡◌, Bool, true, false, List, [], ℕ, ◌+◌, ◌/◌, ◌≤◌, ◌<◌, eqb, length, get_or, set, Result, Ok, Err}
use Rattle.std.proofs.Math.Path.{refl, ap}
use Rattle.std.proofs.Common.{sym, ◌∙◌, true≢false, arith, eq-eqb, length-set, get_or-set_same, get_or-set_other}
use Rattle.std.proofs.lemmas.Bool.{false≢true}
use Rattle.words.specs.Choice.{pick}
use Rattle.words.proofs.Choice.{by_pick}
use Rattle.words.specs.Parts.{part, splice}
use Rattle.words.proofs.Parts.{length_part}
use Rattle.context.proofs.Counts.{init_fits}
use Rattle.context.specs.declared.Logs.{Logs}
use Rattle.requests.specs.declared.Request.{Request}
use Rattle.mailboxes.specs.Mailboxes.{need_of}
use Rattle.burst_table.specs.Sizes.{slot_count, slot_room}
use Rattle.burst_table.proofs.Laws.{need_small}
use Rattle.bursts.specs.Room.{room_of}
use Rattle.bursts.proofs.Room.{length_filled, own_filled, outside_filled}
use Rattle.records.specs.Memory.{Behind, Fits, record_in}
use Rattle.records.specs.Laws.{length_zeroed, zeroed_behind}
use Rattle.slots.specs.Slots.{slot, accepted as running}
use Rattle.slots.specs.declared.Slot.{Slot}
use Rattle.slots.specs.declared.Status.TheVariants.{Free, Running}
use Rattle.rows.proofs.Laws.{Lowest, lowest_free_is}
use Rattle.rules.specs.declared.Refusal.{Refusal}
use Rattle.rules.specs.Numbers.{for_state}
use Rattle.rules.specs.World.{World, status_at}
use Rattle.rules.specs.Admission.{Submitted, submitted, world_opened, world_closed, world_taken, applied}
use Rattle.rules.specs.Names.{Arguments, arguments_of, read_joined, needed, named_in}
use Rattle.rules.specs.Book.{Fed, on_record, close_hca, nop}
use Rattle.rules.specs.Calls.{Note, nothing, refused, accepted, finished, submitted as answers, Asked}
use Rattle.rules.specs.Calls.{asks_close, asks_nop, asks_request, fed, submit_note, is_done, is_init}
use Rattle.rules.specs.Frames.{refused_submit, takes_slot, Taken}
use Rattle.rules.proofs.Laws.Lent.{Sized, lent_sized}
use Rattle.rules.proofs.Laws.Named.{need_arguments, fits_found}
use Rattle.rules.specs.Laws.Decided.{Judging, Decided, plain, denied, takes, closes, rests, opens, misnamed}
use Rattle.rules.proofs.Proofs.Admitted.{quiet, denied_noted}
use Rattle.rules.specs.declared.Decision.{Decision}
use Rattle.rules.specs.declared.Submission.{Submission}
use Rattle.rules.specs.declared.Submission.TheVariants as submit

abbrev pub SizesKept : World → World → Type 0
SizesKept w u =
    (length u.row ≡ length w.row) × (length u.memory.store ≡ length w.memory.store) × (length u.room ≡ length w.room)

-- not an initialisation
abbrev NoInit : Asked → Result Submission Refusal → Type 0
NoInit a x = pick (is_init a) (is_done x) false ≡ false

pub record AppliedKept (w : World) (mail : List ℕ) (a : Asked) (x : Result Submission Refusal) (u : World) : Type 0 where
  pub refusal : refused_submit x ≡ true → u ≡ w
  pub stored : NoInit a x → u.memory ≡ w.memory
  pub counted : NoInit a x → (u.hca.logs ≡ w.hca.logs) × (u.hca.store_len ≡ w.hca.store_len)
  pub behind : (i : ℕ) → Behind u.hca.logs i → get_or u.memory.store i 0 ≡ get_or w.memory.store i 0
  pub roomed : (i : ℕ) → takes_slot (answers x) (i / slot_room) ≡ false → get_or u.room i 0 ≡ get_or w.room i 0
  pub rowed : (j : ℕ) → takes_slot (answers x) j ≡ false → status_at j u.row ≡ status_at j w.row
  pub opened : is_done x ≡ false → u.hca ≡ w.hca
  pub sizes : SizesKept w u
  pub taken : (b : Arguments) (front : List ℕ) (k : ℕ) → submit_note mail a x ≡ accepted (on_record b front) k → Taken w u b front k

pub not_same : (k j : ℕ) → eqb k j ≡ false → ¬ (j ≡ k)
not_same k j e f = true≢false (sym (eq-eqb k j (sym f)) ∙ e)

-- a row in which slot k was set
pub set_other : (row : List Slot) (k j : ℕ) (s : Slot) → eqb k j ≡ false → status_at j (set row k s) ≡ status_at j row
unfolding status_at
set_other row k j s e = ap (λ (x : Slot). x.status) (get_or-set_other row k j s (slot Free) (not_same k j e))

-- ---- nothing changes

same_kept : (w : World) (mail : List ℕ) (a : Asked) (x : Result Submission Refusal)
    → ((q : Arguments) (front : List ℕ) (k : ℕ) → submit_note mail a x ≡ accepted (on_record q front) k → ⊥) → AppliedKept w mail a x w
same_kept w mail a x n = record {
  refusal = λ _. refl;
  stored = λ _. refl;
  counted = λ _. (refl, refl);
  behind = λ i _. refl;
  roomed = λ i _. refl;
  rowed = λ j _. refl;
  opened = λ _. refl;
  sizes = (refl, refl, refl);
  taken = λ q front k e. absurd (n q front k e);
}

not_accepted : (n : Note) (f : Fed) (k : ℕ) → nothing ≡ n → n ≡ accepted f k → ⊥
not_accepted n f k e g = let z : ◌≡◌ {A = ℕ} 0 1 = cc in omega arith

-- ---- a request takes its slot

module _ (w : World) (mail : List ℕ) (q : Request) (k : ℕ) (g : Judging w q mail) (l : Lowest w.row k) where
  z : Sized w
  z = lent_sized w g.asking.passing.lent

  below : k < slot_count
  below = omega (arith, l.inside, z.rowed)

  fits : length (part 0 (need_of q) mail) ≤ slot_room
  fits = omega (arith, length_part 0 (need_of q) mail (omega (arith, g.enough)), need_small q)

  take_room : (i : ℕ) → ¬ (i / slot_room ≡ k) → get_or (world_taken w q mail k).room i 0 ≡ get_or w.room i 0
  unfolding world_taken
  take_room i n = outside_filled k (part 0 (need_of q) mail) w.room below z.roomed fits i n

  take_length : length (world_taken w q mail k).room ≡ length w.room
  unfolding world_taken
  take_length = length_filled k (part 0 (need_of q) mail) w.room below z.roomed fits

  take_runs : status_at k (world_taken w q mail k).row ≡ Running 0 q
  unfolding world_taken status_at
  take_runs = ap (λ (s : Slot). s.status) (get_or-set_same w.row k (slot (Running 0 q)) (slot Free) l.inside)

  take_filled : room_of k (world_taken w q mail k).room ≡ splice 0 (part 0 (needed (arguments_of q)) mail) (room_of k w.room)
  unfolding world_taken
  take_filled =
      own_filled k (part 0 (need_of q) mail) w.room below z.roomed fits
      ∙ ap (λ (n : ℕ). splice 0 (part 0 n mail) (room_of k w.room)) (sym (need_arguments q))

  same_note : (a : Arguments) (front : List ℕ) (j : ℕ) → accepted (fed (arguments_of q) mail) k ≡ accepted (on_record a front) j
      → Taken w (world_taken w q mail k) a front j
  same_note a front j e =
      let x : arguments_of q ≡ a = cc in
      let y : part 0 (needed (arguments_of q)) mail ≡ front = cc in
      let i : k ≡ j = cc in
      moved a front j x y i
    where
      moved : (a : Arguments) (front : List ℕ) (j : ℕ) → arguments_of q ≡ a → part 0 (needed (arguments_of q)) mail ≡ front → k ≡ j
          → Taken w (world_taken w q mail k) a front j
      moved a front j x y i = record {
        request = q;
        named = ap (named_in w.hca.logs (record_in w.hca.logs w.memory)) (sym x)
            ∙ fits_found w.hca.logs (record_in w.hca.logs w.memory) q g.asking.named;
        runs = ap (λ (n : ℕ). status_at n (world_taken w q mail k).row) (sym i) ∙ take_runs;
        filled = ap (λ (n : ℕ). room_of n (world_taken w q mail k).room) (sym i) ∙ take_filled
            ∙ ap (λ (f : List ℕ). splice 0 f (room_of k w.room)) y ∙ ap (λ (n : ℕ). splice 0 front (room_of n w.room)) i;
      }

  take_kept : AppliedKept w mail (asks_request (arguments_of q)) (Ok (submit.Accepted k)) (world_taken w q mail k)
  unfolding world_taken
  take_kept = record {
    refusal = λ e. absurd (false≢true e);
    stored = λ _. refl;
    counted = λ _. (refl, refl);
    behind = λ i _. refl;
    roomed = λ i e. take_room i (not_same k (i / slot_room) e);
    rowed = λ j e. set_other w.row k j (running (get_or w.row k (slot Free)) q) e;
    opened = λ _. refl;
    sizes = (length-set w.row k (running (get_or w.row k (slot Free)) q), refl, take_length);
    taken = same_note;
  }

-- ---- an initialisation

open_kept : (w : World) (mail : List ℕ) (a : Asked) (g : Logs) → is_init a ≡ true → Fits g w.memory
    → ((q : Arguments) (front : List ℕ) (k : ℕ) → submit_note mail a (Ok submit.Done) ≡ accepted (on_record q front) k → ⊥)
    → AppliedKept w mail a (Ok submit.Done) (world_opened w g)
unfolding world_opened
open_kept w mail a g i f n = record {
  refusal = λ e. absurd (false≢true e);
  stored = λ e. absurd (true≢false (sym (ap (λ (b : Bool). pick b true false) i) ∙ e));
  counted = λ e. absurd (true≢false (sym (ap (λ (b : Bool). pick b true false) i) ∙ e));
  behind = λ j h. zeroed_behind g w.memory f j h;
  roomed = λ j _. refl;
  rowed = λ j _. refl;
  opened = λ e. absurd (true≢false e);
  sizes = (refl, length_zeroed g w.memory f, refl);
  taken = λ q front k e. absurd (n q front k e);
}

close_kept : (w : World) (mail : List ℕ) → AppliedKept w mail asks_close (Ok submit.Done) (world_closed w)
unfolding world_closed
close_kept w mail = record {
  refusal = λ e. absurd (false≢true e);
  stored = λ _. refl;
  counted = λ _. (refl, refl);
  behind = λ i _. refl;
  roomed = λ i _. refl;
  rowed = λ j _. refl;
  opened = λ e. absurd (true≢false e);
  sizes = (refl, refl, refl);
  taken = λ q front k e. let z : ◌≡◌ {A = ℕ} 0 1 = cc in absurd (omega arith);
}

-- ---- every decision

denied_note : (q : Arguments) (mail : List ℕ) (n : ℕ) (r : Arguments) (front : List ℕ) (k : ℕ)
    → refused (fed q mail) n ≡ accepted (on_record r front) k → ⊥
denied_note q mail n r front k e = let z : ◌≡◌ {A = ℕ} 0 1 = cc in omega arith

finished_note : (f : Fed) (b : List ℕ) (r : Arguments) (front : List ℕ) (k : ℕ) → finished f b ≡ accepted (on_record r front) k → ⊥
finished_note f b r front k e = let z : ◌≡◌ {A = ℕ} 0 1 = cc in omega arith

pub applied_kept : (w : World) (mail : List ℕ) (a : Asked) (d : Result Decision Refusal) → Decided w mail a d
    → AppliedKept w mail a (applied w mail d).answer (applied w mail d).world
applied_kept w mail a d (plain {a = x} c e) =
    same_kept w mail x (Err c) (λ q front k g. not_accepted _ (on_record q front) k (quiet mail x c e) g)
applied_kept w mail a d (denied {q = q} {d = y} g e) =
    same_kept w mail (asks_request (arguments_of q)) _
    (λ r front k f. denied_note (arguments_of q) mail _ r front k (denied_noted mail (arguments_of q) y ∙ f))
applied_kept w mail a d (misnamed {n = n} g) = same_kept w mail (asks_request (read_joined n)) _ (denied_note (read_joined n) mail _)
applied_kept w mail a d (takes {q = q} {k = k} g e f) = take_kept w mail q k g (lowest_free_is w.row k f)
applied_kept w mail a d (closes o n) = close_kept w mail
applied_kept w mail a d rests = same_kept w mail asks_nop (Ok submit.Done) (finished_note nop [])
applied_kept w mail a d (opens {g = g} p o e) =
    open_kept w mail _ g refl (init_fits mail _ g e) (λ q front k f. not_accepted nothing (on_record q front) k refl f)
