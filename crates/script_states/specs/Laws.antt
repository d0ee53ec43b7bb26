-- What the reader of a state has in hand, turned into what the definitions ask.
use Rattle.std.specs.Prelude.{◌≡◌, refl, List, ℕ, ◌≤◌, ◌<◌, eqb, ltb, Option, Some, None}
use Rattle.std.proofs.Common.{◌∙◌, ap, lt-ltb, le-ltb}
use Rattle.words.proofs.Choice.{pick_yes, pick_no}
use Rattle.script_lines.specs.Lines.{nth}
use Rattle.script_states.specs.States.{logs_of, with_logs, state_in}
use Rattle.context.specs.declared.Logs.{Logs}
use Rattle.possible.specs.declared.Hca.{Hca}

pub logs_read : (f g : Option Logs) (o len : ℕ) (r : Option Hca) → f ≡ g → r ≡ with_logs f o len → r ≡ with_logs g o len
logs_read f g o len r e k = k ∙ ap (λ (x : Option Logs). with_logs x o len) e

pub state_read : (n m : Option (List ℕ)) (r : Option Hca) → n ≡ m → r ≡ state_in n → r ≡ state_in m
state_read n m r e k = k ∙ ap state_in e

pub no_numbers : (f : Option (List ℕ)) → f ≡ None → None ≡ state_in f
unfolding state_in
no_numbers f e = rw e

pub not_open : (f : Option (List ℕ)) (n : List ℕ) → f ≡ Some n → 1 < nth n 0 → None ≡ state_in f
unfolding state_in
not_open f n e o = rw e (pick_yes (ltb 1 (nth n 0)) _ _ _ (lt-ltb 1 (nth n 0) o) refl)

with_read : (f : Option (List ℕ)) (n : List ℕ) (g : Option Logs) (r : Option Hca) → f ≡ Some n → nth n 0 ≤ 1
    → logs_of (nth n 1) (nth n 2) (nth n 3) (nth n 4) ≡ g → r ≡ with_logs g (nth n 0) (nth n 5) → r ≡ state_in f
unfolding state_in
with_read f n g r e o l k =
    rw e (pick_no (ltb 1 (nth n 0)) _ _ _ (le-ltb 1 (nth n 0) o) (rw l k))

pub no_logs : (f : Option (List ℕ)) (n : List ℕ) → f ≡ Some n → nth n 0 ≤ 1
    → logs_of (nth n 1) (nth n 2) (nth n 3) (nth n 4) ≡ None → None ≡ state_in f
no_logs f n e o l = with_read f n None None e o l refl

pub state_made : (f : Option (List ℕ)) (n : List ℕ) (g : Logs) → f ≡ Some n → nth n 0 ≤ 1
    → logs_of (nth n 1) (nth n 2) (nth n 3) (nth n 4) ≡ Some g
    → Some (record { «open» = eqb (nth n 0) 1; logs = g; store_len = nth n 5 }) ≡ state_in f
state_made f n g e o l = with_read f n (Some g) _ e o l refl
