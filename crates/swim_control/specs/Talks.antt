-- What contracts see of connections that are served side by side.
use Rattle.std.specs.Prelude.{ℕ, Bool, List, Option}
use Rattle.swim_control.specs.declared.serving.Served.{Served}

-- a connection: its number, the bytes that it has left, those that it gave so far, the part of a line that was read of
-- it, how many reads it has left, what was written for it before it came, and what is by now; when it came, or its last
-- line ended; whether all answers were taken; and how serving it ended, if it did
pub record Talk : Type 0 where
  pub id : ℕ
  pub left : Option (List ℕ)
  pub given : Option (List ℕ)
  pub part : List ℕ
  pub reads : ℕ
  pub old : Option (List ℕ)
  pub written : Option (List ℕ)
  pub since : ℕ
  pub is_taken : Bool
  pub end : Option Served

-- the connections in the order in which their turns come, how many have come so far, and those that were closed, as
-- they were then
pub record Talks : Type 0 where
  pub talks : List Talk
  pub count : ℕ
  pub closed : List Talk
