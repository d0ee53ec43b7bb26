-- What the code hands back, and that what it leaves is what the rules say.
use Rattle.std.specs.Prelude.{◌≡◌, List, ℕ, ◌<◌, length, get_or, Result, Ok, Err}
use Rattle.std.proofs.Common.{◌∙◌, subst}
use Rattle.std.proofs.Math.Path.{ap}
use Rattle.std.proofs.Math.Bool.{true}
use Rattle.words.specs.Parts.{part}
use Rattle.context.specs.declared.Logs.{Logs}
use Rattle.requests.specs.declared.Request.{Request}
use Rattle.mailboxes.specs.Mailboxes.{need_of}
use Rattle.burst_table.specs.Sizes.{slot_count}
use Rattle.bursts.specs.Room.{room_filled}
use Rattle.slots.specs.Slots.{slot, accepted}
use Rattle.slots.specs.declared.Slot.{Slot}
use Rattle.slots.specs.declared.Status.TheVariants.{Free}
use Rattle.possible.specs.declared.Hca.{Hca}
use Rattle.records.specs.Memory.{Memory}
use Rattle.rules.specs.declared.Refusal.{Refusal}
use Rattle.rules.specs.World.{world, hca_of, shut, with_memory}
use Rattle.rules.specs.Admission.{submitted, world_opened, world_closed, world_taken, applied}
use Rattle.rules.specs.declared.Decision.{Decision}
use Rattle.rules.specs.declared.Submission.{Submission}
use Rattle.rules.specs.declared.Decision.TheVariants as decide
use Rattle.rules.specs.declared.Submission.TheVariants as submit
use Rattle.handed_back.specs.Handed.{submit_handed, same_row}
use Rattle.handed_back.proofs.Handed.{same_row_lem}
use Rattle.handed_back.specs.declared.Submitted.{Submitted}
use Rattle.apply_parts.specs.Parts.{Opening, Taking, Opened}
use Rattle.applying.specs.Applies.{Applies}

-- what is handed back, from its parts
abbrev pub handed : Result Submission Refusal → Hca → ℕ → Slot → Submitted
handed a h k s = record { answer = a; hca = h; at = k; slot = s }

-- ---- what each decision promises, once a match has found it

pub open_promised : (s r m : ℕ) (d : Result Decision Refusal) (g : Logs) → d ≡ Ok (decide.Open g) → Applies s r m d → Opening g s
open_promised s r m d g is a = subst (Applies s r m) is a

pub take_promised : (s r m : ℕ) (d : Result Decision Refusal) (q : Request) (k : ℕ) → d ≡ Ok (decide.Take q k) → Applies s r m d → Taking q k r m
take_promised s r m d q k is a = subst (Applies s r m) is a

pub take_below : (s r m : ℕ) (d : Result Decision Refusal) (q : Request) (k : ℕ) → d ≡ Ok (decide.Take q k) → Applies s r m d → k < slot_count
take_below s r m d q k is a = (take_promised s r m d q k is a).below

-- ---- what each decision leaves

module _ (h : Hca) (row : List Slot) (store room mail : List ℕ) (d : Result Decision Refusal) (x : Submitted) where
  -- with this store and this room, what is handed back is the decision applied
  abbrev Does : List ℕ → List ℕ → Type 0
  Does s r = submit_handed row s r x ≡ applied (world h row store room) mail d

  pub refuse_leaves : (c : Refusal) → d ≡ Err c → x ≡ same_row row (Err c) h → Does store room
  refuse_leaves c is e = rw is (same_row_lem row store room (Err c) h x e)

  pub nothing_leaves : d ≡ Ok decide.Nothing → x ≡ same_row row (Ok submit.Done) h → Does store room
  nothing_leaves is e = rw is (same_row_lem row store room (Ok submit.Done) h x e)

  pub close_leaves : (r : Hca) → d ≡ Ok decide.Close → r ≡ shut h → x ≡ same_row row (Ok submit.Done) r → Does store room
  unfolding world_closed
  close_leaves r is s e = rw is (same_row_lem row store room (Ok submit.Done) r x e ∙ rw s)

  pub open_leaves : (r : Hca) (g : Logs) (out : List ℕ) → d ≡ Ok (decide.Open g) → Opened g store out r → x ≡ same_row row (Ok submit.Done) r
      → Does out room
  unfolding world_opened
  open_leaves r g out is o e =
      rw is
      (same_row_lem row out room (Ok submit.Done) r x e
      ∙ ap (λ (s : Hca). submitted (Ok submit.Done) (world s row out room)) o.state
      ∙ ap (λ (m : Memory). submitted (Ok submit.Done) (with_memory (world (hca_of true g (length store)) row out room) m)) o.zero)

  pub take_leaves : (q : Request) (k : ℕ) (s : Slot) (out : List ℕ) → d ≡ Ok (decide.Take q k)
      → out ≡ room_filled k (part 0 (need_of q) mail) room → s ≡ accepted (get_or row k (slot Free)) q → x ≡ handed (Ok (submit.Accepted k)) h k s
      → Does store out
  unfolding world_taken
  take_leaves q k s out is e f g = rw (is, g, f, e)
