use Rattle.std.specs.Prelude.{◌≡◌, ◌+◌, ◌<◌, ◌≤◌, ◌^◌, length, is_some}
use Rattle.state_facts.specs.Turns.{Turns}
use Rattle.state_facts.specs.Homes.{Homes, all_home}
use Rattle.state_facts.specs.Clients.{Clients}
use Rattle.client_calls.specs.declared.around.Around.{Around}

-- What the rest of a service says to the part that keeps its client's calls (our own choice).

-- what is said is what the queue and the buffers have
pub record IsAround (around : Around) (queue : Turns) (homes : Homes) : Type 0 where
  pub waiting : around.waiting ≡ length queue.waiting
  pub repeating : around.is_repeating ≡ is_some queue.turn
  pub requests : around.requests ≡ queue.requests
  pub next : around.next_buffer ≡ homes.first + length homes.places
  pub home : around.all_home ≡ all_home homes

-- each number fits its type, and there are no more streams than a configuration has
pub record Fits (c : Clients) : Type 0 where
  pub calls : c.calls < 2 ^ 32
  pub repeated : c.repeated < 2 ^ 32
  pub done : c.done < 2 ^ 32
  pub streams : length c.streams ≤ 4
