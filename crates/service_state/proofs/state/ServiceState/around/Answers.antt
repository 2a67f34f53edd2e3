use Rattle.service_state.proofs.state.ServiceState.around.Goals as goal

pub returns-clause-around : goal.returns-clause-around
returns-clause-around c =
    rw (← c.self.view_is) record {
      waiting = c.waiting.ensures;
      repeating = c.is_repeating.ensures;
      requests = c.requests.ensures;
      next = c.next_buffer.ensures;
      home = c.all_home.ensures;
    }

pub returns-clause-quiet : goal.returns-clause-quiet
returns-clause-quiet c = rw (← c.self.view_is) c.is_quiet.ensures

pub returns-clause-next : goal.returns-clause-next
returns-clause-next c = rw (← c.self.view_is) c.next_buffer.ensures
