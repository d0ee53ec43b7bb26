-- The table has exactly the permitted moves, and says the verdict of every other.
use Rattle.std.specs.Prelude.{◌≡◌, Bool, true, false, List, [], ◌∷◌, ℕ, suc, leb}
use Rattle.words.specs.Choice.{both, either}
use Rattle.edges.specs.States.{state_code, rc, uc}
use Rattle.edges.specs.Edges.{permits}
use Rattle.edges.specs.Edges.{judge_of}
use Rattle.edges.specs.Every.{every_edge, agrees}
use Rattle.edges.specs.declared.State.{State}
use Rattle.edges.specs.declared.Edge.{Edge}
use Rattle.edges.specs.declared.Move.{Move}
use Rattle.edge_table.specs.declared.Entry.{Entry}
use Rattle.edge_table.specs.Table.{Line, line, table, is_of, entry_in, entry_of, allows, verdict_by}

-- The codes that have a line.
abbrev pub codes_of : List Line → List ℕ
codes_of [] = []
codes_of (line n cs ws ∷ ls) = n ∷ codes_of ls

-- The command is that of one of the edges.
abbrev pub is_one : ℕ × State → List Edge → Bool
is_one c [] = false
is_one c (edge ∷ edges) = either (is_of c edge) (is_one c edges)

-- The commands of a line rise by op, from n on, so none is there twice, and each is an edge's.
abbrev pub commands_from : ℕ → List (ℕ × State) → Bool
commands_from n [] = true
commands_from n (c ∷ cs) = both (both (leb n c.0) (is_one c every_edge)) (commands_from (suc c.0) cs)

-- The engine writes of a line rise by the code of the state, and each is for some type.
abbrev pub writes_from : ℕ → List (State × Entry) → Bool
writes_from n [] = true
writes_from n (w ∷ ws) = both (both (leb n (state_code w.0)) (allows w.1 uc)) (writes_from (suc (state_code w.0)) ws)

abbrev pub well_formed : List Line → Bool
well_formed [] = true
well_formed (line n cs ws ∷ ls) = both (both (commands_from 0 cs) (writes_from 0 ws)) (well_formed ls)

pub record Exact : Type 0 where
  -- for every move, code and type: the move is permitted exactly if the table has it
  pub permitted : (asked : Move) (code service : ℕ) → allows (entry_of asked code) service ≡ permits asked code service
  -- and its verdict is that of the table's entry: a move that is for every type but RC is refused for the type where that is RC, and no
  -- other move ever is
  pub verdicts : (asked : Move) (code service : ℕ) → judge_of asked code service ≡ verdict_by (entry_of asked code) service
  -- and nothing else stands in it: one line for each of the sixteen codes, and in each line every move once
  pub codes : codes_of table ≡ 0 ∷ 1 ∷ 2 ∷ 3 ∷ 4 ∷ 5 ∷ 6 ∷ 7 ∷ 8 ∷ 9 ∷ 10 ∷ 11 ∷ 12 ∷ 13 ∷ 14 ∷ 15 ∷ []
  pub moves : well_formed table ≡ true

-- ---- the proof: one test of every move from every code below 16, for RC and for UC
abbrev pub tabled : ℕ → Move → ℕ → Bool
tabled code asked service = allows (entry_in table asked code) service

abbrev pub code_right : ℕ → Bool
code_right code = both (agrees (tabled code) code rc) (agrees (tabled code) code uc)

-- a code above 15 has no line
abbrev pub codes_small : List Line → Bool
codes_small [] = true
codes_small (line n cs ws ∷ ls) = both (leb n 15) (codes_small ls)
