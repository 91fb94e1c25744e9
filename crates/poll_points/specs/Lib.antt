pub mod PollPoints
