-- A row listed as far as there is room.
--
--   FittedIn ws x l l' r   the words of ws of the last chains whose cell in x is 1 stand at the end of l', which was l, and r tells how far
use Rattle.std.specs.Prelude.{◌≡◌, List, ◌++◌, ℕ, ◌≤◌, ◌<◌, length, take, drop}
use Rattle.rows.specs.Row.{Cells}
use Rattle.rows.specs.Marks.{marked_words}
use Rattle.marked_words.specs.declared.Fitted.{Fitted}

-- the words of the chains from r.chains on stand from r.place on, and nothing else has changed; 64 places take some of them
pub record FittedIn (ws : List ℕ) (x : Cells) (l l' : List ℕ) (r : Fitted) : Type 0 where
  pub chains : r.chains ≤ length ws
  pub place : r.place ≤ length l
  pub long : length l' ≡ length l
  pub listed : marked_words ws x (length ws) ≡ marked_words ws x r.chains ++ drop r.place l'
  pub kept : take r.place l' ≡ take r.place l
  pub some : 64 ≤ length l → 0 < length ws → r.chains < length ws
