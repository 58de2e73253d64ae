-- The run that is arbitrated fairly, and the run of the same turns by number alone, computed event by event.
use Rattle.std.proofs.Common.{[], refl, inl}
use Rattle.bus_signals.specs.declared.BusEvent.TheVariants.{Urd}
use Rattle.moesi_state.specs.declared.State.TheVariants.{I}
use Rattle.moesi_state.specs.declared.Outcome.TheVariants.{Fixed}
use Rattle.bus_model.specs.Settling.{lines_after, driven_below, rounds_from}
use Rattle.bus_model.specs.WorkedWords.{read, connection}
use Rattle.bus_model.specs.WorkedRuns.{Plays}
use Rattle.bus_model.specs.WorkedFair.{passed_over, passed_over_schedule, passed_over_events, passed_over_end, starving, starving_schedule, starving_events, starving_end}
use Rattle.bus_model.proofs.WorkedSetups

pub passed_over_plays : Plays passed_over passed_over_schedule passed_over_events passed_over_end
unfolding lines_after driven_below rounds_from
passed_over_plays =
    record {
      fits = WorkedSetups.passed_over_fits;
      accepted = WorkedSetups.passed_over_accepted;
      turns = refl;
      runs = (
        (
          read 0,
          record { present = refl; not_raised = refl; not_granted = refl; not_connected = refl; needs = refl },
        ),
        (
          (
            read 0,
            record { present = refl; not_raised = refl; not_granted = refl; not_connected = refl; needs = refl },
          ),
          (
            record {
              idle = refl;
              by_raised = refl;
              wins = record {
                competes = refl;
                number_highest = refl;
                lines_settled = refl;
                rounds_settled = refl;
              };
            },
            (
              (
                read 0,
                record {
                  present = refl;
                  granted = refl;
                  purpose = inl (record {
                    line = refl;
                    alternative = refl;
                    room = λ h. cc;
                  });
                  answers = tt;
                },
              ),
              (
                (
                  connection 1 Urd 0 (Fixed I) ([]),
                  record {
                    present = refl;
                    connected = refl;
                    master = refl;
                    event = refl;
                    line = refl;
                    source = refl;
                    takers = refl;
                    states = refl;
                    done = refl;
                  },
                ),
                (
                  (
                    read 0,
                    record {
                      present = refl;
                      not_raised = refl;
                      not_granted = refl;
                      not_connected = refl;
                      needs = refl;
                    },
                  ),
                  (
                    record {
                      idle = refl;
                      by_raised = refl;
                      wins = record {
                        competes = refl;
                        number_highest = refl;
                        lines_settled = refl;
                        rounds_settled = refl;
                      };
                    },
                    (
                      (
                        read 0,
                        record {
                          present = refl;
                          granted = refl;
                          purpose = inl (record {
                            line = refl;
                            alternative = refl;
                            room = λ h. cc;
                          });
                          answers = tt;
                        },
                      ),
                      (
                        (
                          connection 2 Urd 0 (Fixed I) ([]),
                          record {
                            present = refl;
                            connected = refl;
                            master = refl;
                            event = refl;
                            line = refl;
                            source = refl;
                            takers = refl;
                            states = refl;
                            done = refl;
                          },
                        ),
                        (
                          record {
                            idle = refl;
                            by_raised = refl;
                            wins = record {
                              competes = refl;
                              number_highest = refl;
                              lines_settled = refl;
                              rounds_settled = refl;
                            };
                          },
                          (
                            (
                              read 0,
                              record {
                                present = refl;
                                granted = refl;
                                purpose = inl (record {
                                  line = refl;
                                  alternative = refl;
                                  room = λ h. cc;
                                });
                                answers = tt;
                              },
                            ),
                            (
                              (
                                connection 1 Urd 0 (Fixed I) ([]),
                                record {
                                  present = refl;
                                  connected = refl;
                                  master = refl;
                                  event = refl;
                                  line = refl;
                                  source = refl;
                                  takers = refl;
                                  states = refl;
                                  done = refl;
                                },
                              ),
                              refl,
                            ),
                          ),
                        ),
                      ),
                    ),
                  ),
                ),
              ),
            ),
          ),
        ),
      );
    }

pub starving_plays : Plays starving starving_schedule starving_events starving_end
unfolding lines_after driven_below rounds_from
starving_plays =
    record {
      fits = WorkedSetups.starving_fits;
      accepted = WorkedSetups.starving_accepted;
      turns = refl;
      runs = (
        (
          read 0,
          record { present = refl; not_raised = refl; not_granted = refl; not_connected = refl; needs = refl },
        ),
        (
          (
            read 0,
            record { present = refl; not_raised = refl; not_granted = refl; not_connected = refl; needs = refl },
          ),
          (
            record {
              idle = refl;
              by_raised = refl;
              wins = record {
                competes = refl;
                number_highest = refl;
                lines_settled = refl;
                rounds_settled = refl;
              };
            },
            (
              (
                read 0,
                record {
                  present = refl;
                  granted = refl;
                  purpose = inl (record {
                    line = refl;
                    alternative = refl;
                    room = λ h. cc;
                  });
                  answers = tt;
                },
              ),
              (
                (
                  connection 1 Urd 0 (Fixed I) ([]),
                  record {
                    present = refl;
                    connected = refl;
                    master = refl;
                    event = refl;
                    line = refl;
                    source = refl;
                    takers = refl;
                    states = refl;
                    done = refl;
                  },
                ),
                (
                  (
                    read 0,
                    record {
                      present = refl;
                      not_raised = refl;
                      not_granted = refl;
                      not_connected = refl;
                      needs = refl;
                    },
                  ),
                  (
                    record {
                      idle = refl;
                      by_raised = refl;
                      wins = record {
                        competes = refl;
                        number_highest = refl;
                        lines_settled = refl;
                        rounds_settled = refl;
                      };
                    },
                    refl,
                  ),
                ),
              ),
            ),
          ),
        ),
      );
    }
