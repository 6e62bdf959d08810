-- process.rs: the queue of entries, the processes and next thread numbers by name, pop and push.
-- Believed. Assumes nothing. A map is the list of its keys and values, a new key last: the order in which the Rust's map keeps them is never looked at.
use Rattle.std.specs.Prelude.{ℕ, ◌+◌, ◌-◌, cond, List, [], ◌∷◌, ◌++◌}
use Rattle.std.proofs.Math.Option.{Option, none, some}
use Rattle.laws.specs.Lists.{same}

pub record Entry : Type 0 where
  pub name : List ℕ
  pub thread : ℕ
  pub offset : ℕ

-- a key of a map and its value
pub record Pair : Type 0 where
  pub key : List ℕ
  pub value : ℕ

-- the value of a key
abbrev pub get : List ℕ → List Pair → Option ℕ
get name [] = none
get name (x ∷ xs) = cond (same name x.key) (some x.value) (get name xs)

-- the map with a key's value set
abbrev pub insert : List ℕ → ℕ → List Pair → List Pair
insert name v [] = record { key = name; value = v } ∷ []
insert name v (x ∷ xs) = cond (same name x.key) (record { key = x.key; value = v } ∷ xs) (x ∷ insert name v xs)

-- 0 for a key that is not there
abbrev pub or_zero : Option ℕ → ℕ
or_zero none = 0
or_zero (some v) = v

pub record Queue : Type 0 where
  pub queue : List Entry
  pub processes : List Pair
  pub next_thread_id : List Pair

-- its error
pub data Error : Type 0 where
  NoRemainingProcesses : Error
  ProcessNameExists : List ℕ → Error
  ExecuteDat : ℕ → Error
  DivideByZero : Error

-- the entry and the queue afterwards, an error, or a panic
pub data Popped : Type 0 where
  Ok : Entry → Queue → Popped
  Err : Error → Popped
  Panic : Popped

-- pop: the count is looked up, which panics where there is none, and lowered
abbrev pub lowered : Option ℕ → Entry → List Entry → Queue → Popped
lowered none e rest q = Panic
lowered (some count) e rest q =
    Ok e (record { queue = rest; processes = insert e.name (count - 1) q.processes; next_thread_id = q.next_thread_id })

abbrev pub pop_from : List Entry → Queue → Popped
pop_from [] q = Err NoRemainingProcesses
pop_from (e ∷ rest) q = lowered (get e.name q.processes) e rest q

abbrev pub pop : Queue → Popped
pop q = pop_from q.queue q

-- push: the thread number given, or the name's next one, which rises by one
abbrev pub thread_id : Option ℕ → List ℕ → Queue → ℕ
thread_id (some id) name q = id
thread_id none name q = or_zero (get name q.next_thread_id)

abbrev pub next_id : Option ℕ → List ℕ → Queue → List Pair
next_id (some id) name q = q.next_thread_id
next_id none name q = insert name (or_zero (get name q.next_thread_id) + 1) q.next_thread_id

unfoldable pub push : List ℕ → ℕ → Option ℕ → Queue → Queue
push process_name offset thread q =
    record {
      queue = q.queue ++ (record { name = process_name; thread = thread_id thread process_name q; offset = offset } ∷ []);
      processes = insert process_name (or_zero (get process_name q.processes) + 1) q.processes;
      next_thread_id = next_id thread process_name q;
    }

-- thread_count: nothing where it panics
abbrev pub thread_count : List ℕ → Queue → Option ℕ
thread_count name q = get name q.processes
